use Rattle.std.proofs.Common.{refl}
use Rattle.topic_core.specs.Topics.{changes, last_level, numbered, worst_level}
use Rattle.topic_core.proofs.laws.examples_of_topics.Goals as goal

pub returns-clause-first_is_fine : goal.returns-clause-first_is_fine
unfolding changes numbered last_level worst_level
returns-clause-first_is_fine c = refl

pub returns-clause-repeated_level : goal.returns-clause-repeated_level
unfolding changes numbered last_level worst_level
returns-clause-repeated_level c = refl

pub returns-clause-back_to_fine : goal.returns-clause-back_to_fine
unfolding changes numbered last_level worst_level
returns-clause-back_to_fine c = refl

pub returns-clause-two_ids : goal.returns-clause-two_ids
unfolding changes numbered last_level worst_level
returns-clause-two_ids c = refl

pub returns-clause-two_topics : goal.returns-clause-two_topics
unfolding changes numbered last_level worst_level
returns-clause-two_topics c = refl

pub returns-clause-shared_id : goal.returns-clause-shared_id
unfolding changes numbered last_level worst_level
returns-clause-shared_id c = refl

pub returns-clause-greatest_of_ids : goal.returns-clause-greatest_of_ids
unfolding changes numbered last_level worst_level
returns-clause-greatest_of_ids c = refl

pub returns-clause-greatest_of_none : goal.returns-clause-greatest_of_none
unfolding changes numbered last_level worst_level
returns-clause-greatest_of_none c = refl

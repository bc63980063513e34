-- What the nodes of a sort do, with what holds of them: one of two sorts, of a rule for groups, and of a rule that
-- keeps nothing.
use Rattle.std.specs.Prelude.{◌≡◌, ℕ, [], ◌∷◌, ◌++◌, List, Bool, false, refl}
use Rattle.kap_base.specs.Maps.{KeyMap, byte_order}
use Rattle.kap_base.specs.Points.{PointValue}
use Rattle.kap_base.specs.declared.items.Body.{Body}
use Rattle.state_code.specs.Laws.{bytes_spelled}
use Rattle.state_code.specs.Levels.{FitsUnit, read_unit, spell_unit, unit_spelled}
use Rattle.state_code.specs.Maps.{FitsMap, map_spelled, read_map, spell_map}
use Rattle.state_code.specs.Spelling.{FitsBytes, IsSpelling, Reading, read_bytes, spell_bytes}
use Rattle.node_core.specs.declared.alone.Alone.{Alone}
use Rattle.node_core.specs.declared.both.Both.{Both}
use Rattle.node_core.specs.declared.both.Both.TheVariants.{One, Other}
use Rattle.node_core.specs.declared.grouped.Grouped.{Grouped}
use Rattle.node_core.specs.declared.numbered.Seat.{Seat}
use Rattle.node_core.specs.declared.running.Running.{Running}
use Rattle.node_core.specs.declared.said.Said.{Said}
use Rattle.node_core.specs.Alone.{NothingKept, alone_stays}
use Rattle.node_core.specs.Both.{FitsBoth, both_spelled, counts_both, either, folds_both, of_both, read_both, spell_both, stamped_both, stays_both, step_both}
use Rattle.node_core.specs.Cut.{IsStamped}
use Rattle.node_core.specs.GroupLaws.{groups_begin, groups_go_on, groups_say, groups_stay}
use Rattle.node_core.specs.Groups.{Came, GroupAnswer, in_groups, is_point}
use Rattle.node_core.specs.Machine.{KeptCells, group_step, no_groups}
use Rattle.node_core.specs.Meaning.{Answer, Arrival, Input, Move, Saying, Turn, fold, given, silence, stay}
use Rattle.node_core.specs.NumberLaws.{is_stamped, running_stays}
use Rattle.node_core.specs.NumberLaws.{folds as running_folds, counts as running_counts}
use Rattle.node_core.specs.Numbering.{running_first, running_step}
use Rattle.node_core.specs.Numbering.{stamped as stamped_answer}
use Rattle.node_core.specs.RunningSpelling.{FitsRunning, read_running, running_spelled, spell_running}

-- by its spec: its ports, its life and its number, the bodies that are for it, what it says and its answers, its first
-- state and its steps, what a state counts as dropped, how it is spelled, and what holds of these
pub record Behaviour (P S : Type 0) : Type 1 where
  pub ports : P → ℕ
  pub life : P → ℕ
  pub number : P → ℕ
  pub takes : P → Body → Bool
  pub saying : P → Saying
  pub answer : P → Answer
  pub first : P → S
  pub step : P → S → Input → Move S
  pub drops : S → ℕ
  pub Fits : P → S → Type 0
  pub spell : P → S → List ℕ
  pub read : P → Reading S
  pub answers : (p : P) → answer p ≡ stamped_answer (life p) (number p) (saying p)
  pub folds : (p : P) (xs : List Input) → (fold (step p) (first p) xs).given ≡ given (answer p) xs
  pub counts : (p : P) (xs : List Input) → drops (fold (step p) (first p) xs).state ≡ (given (answer p) xs).drops
  pub stamped : (p : P) (before : List Input) (x : Input)
      → IsStamped (life p) (number p) x.1.stamp.0 (answer p before x)
  pub stays : (p : P) (s : S) (x : Input) → takes p x.1.body ≡ false → step p s x ≡ stay s
  pub spelled : (p : P) → IsSpelling (Fits p) (spell p) (read p)

-- a node of either sort answers what it says
pub answers_both : {P Q : Type 0} (life_one node_one : P → ℕ) (life_other node_other : Q → ℕ) (says_one : P → Saying)
    (says_other : Q → Saying) (one : P → Answer) (other : Q → Answer)
    → ((p : P) → one p ≡ stamped_answer (life_one p) (node_one p) (says_one p))
    → ((q : Q) → other q ≡ stamped_answer (life_other q) (node_other q) (says_other q))
    → (spec : Both P Q)
    → either one other spec
    ≡ stamped_answer (either life_one life_other spec) (either node_one node_other spec)
    (either says_one says_other spec)
answers_both life_one node_one life_other node_other says_one says_other one other h k (One p) = h p
answers_both life_one node_one life_other node_other says_one says_other one other h k (Other q) = k q

-- of one of two sorts, which the spec names
abbrev pub both : {P Q S T : Type 0} → Behaviour P S → Behaviour Q T → Behaviour (Both P Q) (Both S T)
both a b = record {
  ports = either a.ports b.ports;
  life = either a.life b.life;
  number = either a.number b.number;
  takes = either a.takes b.takes;
  saying = either a.saying b.saying;
  answer = either a.answer b.answer;
  first = of_both a.first b.first;
  step = step_both a.step b.step;
  drops = either a.drops b.drops;
  Fits = FitsBoth a.Fits b.Fits;
  spell = spell_both a.spell b.spell;
  read = read_both a.read b.read;
  answers = answers_both a.life a.number b.life b.number a.saying b.saying a.answer b.answer a.answers b.answers;
  folds = folds_both a.step b.step a.first b.first a.answer b.answer a.folds b.folds;
  counts = counts_both a.step b.step a.first b.first a.drops b.drops a.answer b.answer a.counts b.counts;
  stamped = stamped_both a.life a.number b.life b.number a.answer b.answer a.stamped b.stamped;
  stays = stays_both a.takes b.takes a.step b.step a.stays b.stays;
  spelled = both_spelled a.Fits b.Fits a.spell b.spell a.read b.read a.spelled b.spelled;
}

-- what is kept of a group's points, and of one more
abbrev pub GoesOn : {C : Type 0} → (C → ℕ → PointValue → Turn C) → (List Came → C) → GroupAnswer → Type 0
GoesOn step kept answer = (before : List Came) (port : ℕ) (p : PointValue)
    → step (kept before) port p ≡ record { state = kept (before ++ (port, p) ∷ []); said = answer before port p }

-- of a rule for groups: its ports, its answers, what it keeps of a group, its steps, and how that is spelled
abbrev pub grouped : {R C : Type 0} {Fits : C → Type 0} {spell : C → List ℕ} {read : Reading C} (ports : R → ℕ)
    (answer : R → GroupAnswer) (kept : R → List Came → C) (step : R → C → ℕ → PointValue → Turn C)
    → ((r : R) → GoesOn (step r) (kept r) (answer r)) → IsSpelling Fits spell read
    → Behaviour (Seat (Grouped R)) (Running (KeyMap C))
grouped {Fits = Fits} {spell = spell} {read = read} ports answer kept step goes_on spelled = record {
  ports = λ s. ports s.kind.rule;
  life = λ s. s.life;
  number = λ s. s.node;
  takes = λ s. is_point;
  saying = λ s. in_groups (answer s.kind.rule);
  answer = λ s. stamped_answer s.life s.node (in_groups (answer s.kind.rule));
  first = λ s. running_first no_groups;
  step = λ s. running_step s.life s.node (group_step (kept s.kind.rule []) (step s.kind.rule));
  drops = λ r. r.dropped;
  Fits = λ s. FitsRunning (FitsMap FitsBytes Fits);
  spell = λ s. spell_running (spell_map spell_bytes spell);
  read = λ s. read_running (read_map byte_order read_bytes read);
  answers = λ s. refl;
  folds = λ s. running_folds s.life s.node (in_groups (answer s.kind.rule))
      (group_step (kept s.kind.rule []) (step s.kind.rule)) no_groups (KeptCells (kept s.kind.rule))
      (groups_begin (step s.kind.rule) (kept s.kind.rule) (answer s.kind.rule) (goes_on s.kind.rule))
      (groups_go_on (step s.kind.rule) (kept s.kind.rule) (answer s.kind.rule) (goes_on s.kind.rule))
      (groups_say (step s.kind.rule) (kept s.kind.rule) (answer s.kind.rule) (goes_on s.kind.rule));
  counts = λ s. running_counts s.life s.node (in_groups (answer s.kind.rule))
      (group_step (kept s.kind.rule []) (step s.kind.rule)) no_groups (KeptCells (kept s.kind.rule))
      (groups_begin (step s.kind.rule) (kept s.kind.rule) (answer s.kind.rule) (goes_on s.kind.rule))
      (groups_go_on (step s.kind.rule) (kept s.kind.rule) (answer s.kind.rule) (goes_on s.kind.rule))
      (groups_say (step s.kind.rule) (kept s.kind.rule) (answer s.kind.rule) (goes_on s.kind.rule));
  stamped = λ s. is_stamped s.life s.node (in_groups (answer s.kind.rule));
  stays = λ s r x h. running_stays s.life s.node (group_step (kept s.kind.rule []) (step s.kind.rule)) r x
      (groups_stay (kept s.kind.rule []) (step s.kind.rule) r.inner (x.0, x.1.body) h);
  spelled = λ s. running_spelled (map_spelled byte_order bytes_spelled spelled);
}

-- what a rule that keeps nothing says of what arrives, whatever arrived before
abbrev pub saying_of : (ℕ → Body → Said) → Saying
saying_of says before x = says x.0 x.1

-- what such a rule makes of what it keeps
abbrev pub turn_of : (ℕ → Body → Said) → Unit {0} → Arrival → Turn (Unit {0})
turn_of says s x = record { state = s; said = says x.0 x.1 }

-- of a rule that keeps nothing: its ports, the bodies that are for it, and what it says of them
abbrev pub alone : {R : Type 0} (ports : R → ℕ) (takes : Body → Bool) (says : R → ℕ → Body → Said)
    → ((r : R) (port : ℕ) (body : Body) → takes body ≡ false → says r port body ≡ silence)
    → Behaviour (Seat (Alone R)) (Running (Unit {0}))
alone ports takes says silent = record {
  ports = λ s. ports s.kind.plain;
  life = λ s. s.life;
  number = λ s. s.node;
  takes = λ s. takes;
  saying = λ s. saying_of (says s.kind.plain);
  answer = λ s. stamped_answer s.life s.node (saying_of (says s.kind.plain));
  first = λ s. running_first tt;
  step = λ s. running_step s.life s.node (turn_of (says s.kind.plain));
  drops = λ r. r.dropped;
  Fits = λ s. FitsRunning FitsUnit;
  spell = λ s. spell_running spell_unit;
  read = λ s. read_running read_unit;
  answers = λ s. refl;
  folds = λ s. running_folds s.life s.node (saying_of (says s.kind.plain))
      (turn_of (says s.kind.plain)) tt NothingKept tt (λ before r x h. tt) (λ before r x h. refl);
  counts = λ s. running_counts s.life s.node (saying_of (says s.kind.plain))
      (turn_of (says s.kind.plain)) tt NothingKept tt (λ before r x h. tt) (λ before r x h. refl);
  stamped = λ s. is_stamped s.life s.node (saying_of (says s.kind.plain));
  stays = λ s r x h. running_stays s.life s.node (turn_of (says s.kind.plain)) r x
      (alone_stays r.inner (says s.kind.plain x.0 x.1.body) (silent s.kind.plain x.0 x.1.body h));
  spelled = λ s. running_spelled unit_spelled;
}

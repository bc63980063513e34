-- What was collected of a net and what wasn't yet stay what its cells did since the load.
use Rattle.std.proofs.Common.{◌≡◌, List, [], ◌++◌, IsPermutation, sym, ap, subst, ◌∙◌, append-nil, append_assoc}
use Rattle.std.proofs.lemmas.List.Sorted.{IsPermutation-append_left, IsPermutation-append_right, IsPermutation-refl, IsPermutation-trans}
use Rattle.kap_base.specs.declared.items.Effect.{Effect}
use Rattle.flow_core.specs.Nets.{NetValue}
use Rattle.flow_core.specs.Done.{GathersAll, HasGathered, effects_in}

module _ {N : Type 0} where
  -- behind a load of a net of which all was collected
  pub gathered_loaded : (before after : NetValue N) → before.gathered ≡ [] → after.gathered ≡ before.gathered ++ effects_in after.lives → HasGathered [] after
  gathered_loaded before after none given =
      let done = effects_in after.lives in
      subst (λ (es : List Effect). IsPermutation done es) (sym (given ∙ ap (λ (es : List Effect). es ++ done) none)) (IsPermutation-refl done)

  -- and behind steps
  pub gathered_moved : (collected : List Effect) (before after : NetValue N) → HasGathered collected before
      → GathersAll (effects_in before.lives) (effects_in after.lives) before.gathered after.gathered → HasGathered collected after
  gathered_moved collected before after h p =
      let done = effects_in before.lives in
      let grown : IsPermutation (done ++ p.more) ((collected ++ before.gathered) ++ p.more) = IsPermutation-append_left p.more done (collected ++ before.gathered) h in
      subst (λ (es : List Effect). IsPermutation (effects_in after.lives) es) (append_assoc collected before.gathered p.more ∙ ap (λ (es : List Effect). collected ++ es) (sym p.given))
      (IsPermutation-trans (effects_in after.lives) (done ++ p.more) ((collected ++ before.gathered) ++ p.more) p.all grown)

-- where more is collected
pub gathered_collected : (collected result done gathered now : List Effect) → IsPermutation done (collected ++ gathered) → IsPermutation gathered result → now ≡ [] → IsPermutation done ((collected ++ result) ++ now)
gathered_collected collected result done gathered now h same none =
    let all : IsPermutation done (collected ++ result) =
    IsPermutation-trans done (collected ++ gathered) (collected ++ result) h (IsPermutation-append_right collected gathered result same) in
    subst (λ (es : List Effect). IsPermutation done ((collected ++ result) ++ es)) (sym none)
    (subst (λ (es : List Effect). IsPermutation done es) (sym (append-nil (collected ++ result))) all)

use Rattle.std.proofs.Common.{◌≡◌, ℕ, ◌+◌, ◌<◌, List, [], ◌∷◌, ◌++◌, min, length, take, drop, refl, sym, ap, ◌∙◌, arith}
use Rattle.std.proofs.lemmas.List.{take-append-drop, drop-drop}
use Rattle.kap_io.specs.Fakes.{SourceState}
use Rattle.kap_io.proofs.mem_source.MemSourceSource.read.Goals as goal

no_bytes : (bytes : List ℕ) → length bytes ≡ 0 → bytes ≡ []
no_bytes [] none = refl
no_bytes (b ∷ bytes) none = absurd (omega arith)

nothing_given : (step size : ℕ) (bytes : List ℕ) → 0 < step → 0 < size → min step (min (length bytes) size) ≡ 0 → bytes ≡ []
nothing_given step size bytes moves room none = no_bytes bytes (omega arith)

pub returns-clause-bytes : goal.returns-clause-bytes
returns-clause-bytes c =
    let at = c.self.inside.at in
    let items = c.self.inside.bytes.items in
    let n = c.give-count.result in
    let left : c.args.self.now.left ≡ drop at items = sym (ap (λ (s : SourceState). s.left) c.self.view_is) in
    let slice : c.split_at.result.1.now ≡ drop at items = cc in
    let behind : drop (at + n) items ≡ drop n (drop at items) = sym (drop-drop n at items) in
    let given : take n c.give-count.new.buf ≡ take n (drop at items) = c.give-count.ensures.bytes ∙ ap (take n) slice in (
      left ∙ sym (take-append-drop n (drop at items)) ∙ ap (λ (l : List ℕ). l ++ drop n (drop at items)) (sym given)
          ∙ ap (λ (l : List ℕ). take n c.give-count.new.buf ++ l) (sym behind),
      λ none room.
          let nothing : drop at items ≡ [] = nothing_given c.self.inside.step (length c.args.buf.now) (drop at items) c.self.invariant.1 (omega arith)
          (ap (λ (l : List ℕ). min c.self.inside.step (min (length l) (length c.args.buf.now))) (sym slice) ∙ sym c.give-count.ensures.count ∙ none) in
          behind ∙ ap (drop n) nothing ∙ drop_nil n,
    ) where
      drop_nil : (n : ℕ) → ◌≡◌ {A = List ℕ} (drop n []) []
      drop_nil n = no_bytes (drop n []) (grind arith)

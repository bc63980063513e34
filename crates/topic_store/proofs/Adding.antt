-- What a store's files stand for while a record is added.
use Rattle.std.proofs.Common.{◌≡◌, ◌⊎◌, inl, inr, ⊎_elim, ℕ, ◌≤◌, List, [], ◌∷◌, ◌++◌, length, map, sym, ◌∙◌, ap, subst, Option}
use Rattle.std.specs.Prelude.{Bool, true, false, ◌==◌, ◌%◌, if◌then◌else◌, IfSome}
use Rattle.std.proofs.lemmas.List.{map-append}
use Rattle.kap_io.specs.Disk.{Elsewhere, Image, On, Reached}
use Rattle.kap_io.specs.declared.disk.Part.{Part}
use Rattle.kap_io.specs.declared.disk.Part.TheVariants.{Head, Left, Right}
use Rattle.gate_log.specs.Bodies.{IsBeforeOrAfter, IsLog}
use Rattle.gate_log.specs.Head.{IsHead}
use Rattle.gate_log.specs.Logs.{LogState, Rests}
use Rattle.store_records.specs.Held.{MayFollow}
use Rattle.store_records.specs.Histories.{end_of, held}
use Rattle.store_records.specs.Records.{IsBodyOf, spell_record}
use Rattle.store_records.specs.declared.rec.Rec.{Rec}
use Rattle.store_kept.specs.Changing.{ArePartsFor, IsMarkAt, kept_with}
use Rattle.store_kept.specs.Keeping.{KeepsRecords, KeptValue}
use Rattle.gate_log.specs.declared.log.TheConstants.{BODY_LIMIT}
use Rattle.topic_store.specs.Stores.{AreStored, IsOn, Stands, StoreState, current}
use Rattle.store_kept.specs.declared.kept.Mark.{Mark}
use Rattle.store_kept.specs.declared.parts.Parts.{Parts}
use Rattle.store_kept.proofs.Keeping.{follow_push, keeps_push}
use Rattle.topic_store.proofs.Apart.{gate_is}
use Rattle.topic_store.proofs.Reading.{short_push}

pub head_apart : (run : ℕ) → Head ≡ current run → ⊥
head_apart run = by_test (run % 2 == 0)
  where
    by_test : (even : Bool) → Head ≡ (if even then Left else Right) → ⊥
    by_test true e = cc
    by_test false e = cc

-- each image of now stands for the store's records
pub image_stands : (rs : List Rec) (seen : Image) (images : Image → Type 0) (store : StoreState) → IsOn rs seen images store → (c : Image) → images c → Stands rs c
image_stands rs seen images store on c now = record {
  run = on.run;
  head = subst (IsHead on.run) (sym (on.durable c now)) on.head;
  log = subst (λ (p : Part). IsLog (map spell_record rs) (c p)) on.part (subst (IsLog (map spell_record rs)) (sym (on.log.file.durable c now)) on.log.file.bytes);
  stored = on.stored;
}

-- what is kept once the record's parts were put in
pub kept_put : (r : Rec) (at : ℕ) (k mid later : KeptValue) (parts : Parts) → mid ≡ k → ArePartsFor at r k parts
    → ((n : ℕ) → ArePartsFor n r mid parts → later ≡ kept_with n r parts.mark mid) → later ≡ kept_with at r parts.mark k
kept_put r at k mid later parts mid_is are puts =
    puts at (subst (λ (m : KeptValue). ArePartsFor at r m parts) (sym mid_is) are) ∙ ap (λ (m : KeptValue). kept_with at r parts.mark m) mid_is

module _ (rs : List Rec) (r : Rec) (body : List ℕ) (is : IsBodyOf r body) (may : MayFollow (held rs) r) (short : length body ≤ BODY_LIMIT) (seen : Image) (images : Image → Type 0) (store : StoreState)
    (on : IsOn rs seen images store) where
  apart : Head ≡ store.log.part → ⊥
  apart e = head_apart on.run (e ∙ on.part)

  pushed : map spell_record rs ++ body ∷ [] ≡ map spell_record (rs ++ r ∷ [])
  pushed = ap (λ (b : List ℕ). map spell_record rs ++ b ∷ []) is.is ∙ sym (map-append spell_record rs (r ∷ []))

  more_stored : AreStored (rs ++ r ∷ [])
  more_stored = record {
    follow = follow_push rs r on.stored.follow is.fits may;
    short = short_push rs r on.stored.short (subst (λ (b : List ℕ). length b ≤ BODY_LIMIT) is.is short);
  }

  -- the head of an image that the call leads to
  head_stays : (becomes : List ℕ → List ℕ → Type 0) (d c : Image) → images d → On store.log.part becomes d c → c Head ≡ seen Head
  head_stays becomes d c was how = how.elsewhere Head apart ∙ on.durable d was

  -- each image stands for the records with the new one or without
  pub stands : (d c : Image) → images d → On store.log.part (λ _ file. IsBeforeOrAfter (map spell_record rs) body file) d c → Stands rs c ⊎ Stands (rs ++ r ∷ []) c
  stands d c was how = ⊎_elim
      (λ before. inl (record { run = on.run; head = head; log = in_part _ before; stored = on.stored }))
      (λ after. inr (record {
        run = on.run;
        head = head;
        log = in_part _ (subst (λ (bodies : List (List ℕ)). IsLog bodies (c store.log.part)) pushed after);
        stored = more_stored;
      })) how.step
    where
      head : IsHead on.run (c Head)
      head = subst (IsHead on.run) (sym (head_stays _ d c was how)) on.head

      in_part : (bodies : List (List ℕ)) → IsLog bodies (c store.log.part) → IsLog bodies (c (current on.run))
      in_part bodies log = subst (λ (p : Part). IsLog bodies (c p)) on.part log

  -- the gate at which the record is put
  pub at_end : store.log.end ≡ end_of rs
  at_end = on.log.end ∙ gate_is rs

  pub added : (later : Image) (left : Image → Type 0) (log : LogState) (kept : KeptValue) (mark : Option Mark) (becomes : List ℕ → List ℕ → Type 0)
      → log.part ≡ store.log.part → Elsewhere store.log.part seen later → ((c : Image) → left c → Reached images (On store.log.part becomes) c)
      → Rests (map spell_record rs ++ body ∷ []) later left log
      → kept ≡ kept_with store.log.end r mark store.kept → IfSome mark (IsMarkAt store.log.end store.kept)
      → IsOn (rs ++ r ∷ []) later left (record { log = log; kept = kept })
  added later left log kept mark becomes same elsewhere reached rests kept_is mark_at = record {
    run = on.run;
    head = subst (IsHead on.run) (sym (elsewhere Head apart)) on.head;
    durable = λ c now. let from = reached c now in head_stays becomes from.origin c from.was from.how ∙ sym (elsewhere Head apart);
    part = same ∙ on.part;
    log = subst (λ (bodies : List (List ℕ)). Rests bodies later left log) pushed rests;
    stored = more_stored;
    kept =
        subst (KeepsRecords (rs ++ r ∷ [])) (sym (kept_is ∙ ap (λ (n : ℕ). kept_with n r mark store.kept) at_end))
        (keeps_push rs r store.kept mark on.kept (subst (λ (n : ℕ). IfSome mark (IsMarkAt n store.kept)) at_end mark_at));
  }

-- The sample recording, some records behind others.
use Rattle.std.proofs.Common.{◌≡◌, ℕ, zero, suc, ◌+◌, ◌-◌, ◌≤◌, Result, Ok, Err, OnErr, Option, List, [], ◌∷◌, ◌++◌, length, take, refl, sym, ap, ◌∙◌, subst, append_assoc, append-nil, arith, length-append}
use Rattle.std.specs.Io.KnownBytes.{Appends}
use Rattle.std.proofs.KnownBytes.{Appends-nil, Appends-trans}
use Rattle.std.proofs.lemmas.List.{take-append-le}
use Rattle.std.proofs.Math.Seq.{take-append-add}
use Rattle.std.specs.List.{flat_map}
use Rattle.std.proofs.lemmas.List.Concat.{flat_map-append}
use Rattle.kap_io.specs.Pieces.{AppendsPrefix}
use Rattle.recording_file.specs.Printed.{record_text}
use Rattle.sample_points.specs.Samples.{sample_of, sample_text, samples}

-- the points of one number more have its point behind the others
next_sample : (n : ℕ) → samples (suc n) ≡ samples n ++ sample_of (suc n) ∷ []
unfolding samples
next_sample n = refl

next_text : (n : ℕ) → sample_text (suc n) ≡ sample_text n ++ record_text (sample_of (suc n))
next_text n =
    ap (flat_map record_text) (next_sample n) ∙ flat_map-append record_text (samples n) (sample_of (suc n) ∷ []) ∙ ap (λ (l : List ℕ). sample_text n ++ l) (append-nil (record_text (sample_of (suc n))))

pub samples_next : (n : ℕ) → samples (n + 1) ≡ samples n ++ sample_of (n + 1) ∷ []
samples_next n =
    let is : suc n ≡ n + 1 = omega arith in
    subst (λ (m : ℕ). samples m ≡ samples n ++ sample_of m ∷ []) is (next_sample n)

-- the recording of one point more has its record behind the others
pub text_next : (n : ℕ) → sample_text (n + 1) ≡ sample_text n ++ record_text (sample_of (n + 1))
text_next n =
    let is : suc n ≡ n + 1 = omega arith in
    subst (λ (m : ℕ). sample_text m ≡ sample_text n ++ record_text (sample_of m)) is (next_text n)

-- the recording of so many points more begins with that of the first ones
text_grows : (n k m : ℕ) → m ≡ k + n → (more : List ℕ) × (sample_text m ≡ sample_text n ++ more)
text_grows n zero m e =
    let is : m ≡ n = omega (arith, e) in
    ([], ap sample_text is ∙ sym (append-nil (sample_text n)))
text_grows n (suc k) m e =
    let on = text_grows n k (k + n) refl in
    let is : suc (k + n) ≡ m = omega (arith, e) in
    let record_is : List ℕ = record_text (sample_of (suc (k + n))) in
    (on.0 ++ record_is, subst (λ (m' : ℕ). sample_text m' ≡ sample_text n ++ (on.0 ++ record_is)) is (next_text (k + n) ∙ ap (λ (l : List ℕ). l ++ record_is) on.1 ∙ append_assoc (sample_text n) on.0 record_is))

grows_to : (n m : ℕ) → n ≤ m → (more : List ℕ) × (sample_text m ≡ sample_text n ++ more)
grows_to n m low =
    let is : m ≡ (m - n) + n = omega (arith, low) in
    text_grows n (m - n) m is

-- there are as many points as numbers
pub samples_count : (n : ℕ) → length (samples n) ≡ n
unfolding samples
samples_count zero = refl
samples_count (suc n) = length-append (samples n) (sample_of (suc n) ∷ []) ∙ ap (λ (k : ℕ). k + 1) (samples_count n) ∙ (let is : n + 1 ≡ suc n = omega arith in is)

-- behind the recording of the first points a prefix of more of them is a prefix of the whole
pub prefix_behind : (w v x : Option (List ℕ)) (done text more : List ℕ) → Appends w v done → AppendsPrefix v x text → AppendsPrefix w x (done ++ (text ++ more))
prefix_behind w v x done text more p q =
    let taken : take (length done + q.0) (done ++ (text ++ more)) ≡ done ++ take q.0 text = take-append-add done (text ++ more) q.0 ∙ ap (λ (l : List ℕ). done ++ l) (take-append-le q.0 text more q.1) in
    (length done + q.0, let bound = q.1 in omega (arith, length-append done (text ++ more), length-append text more), subst (Appends w x) (sym taken) (Appends-trans w v x done (take q.0 text) p q.2))

-- where the recording of the first points and a prefix of more of it were written, a prefix of the whole was
pub prefix_of_all : (w v x : Option (List ℕ)) (done next count : ℕ) (text : List ℕ) → Appends w v (sample_text done) → AppendsPrefix v x text
    → sample_text next ≡ sample_text done ++ text → next ≤ count → AppendsPrefix w x (sample_text count)
prefix_of_all w v x done next count text p q is low =
    let g = grows_to next count low in
    subst (AppendsPrefix w x) (sym (g.1 ∙ ap (λ (l : List ℕ). l ++ g.0) is ∙ append_assoc (sample_text done) text g.0)) (prefix_behind w v x (sample_text done) text g.0 p q)

-- where the recording of the first points was written, a prefix of the whole was
pub prefix_so_far : (w v : Option (List ℕ)) (done count : ℕ) → Appends w v (sample_text done) → done ≤ count → AppendsPrefix w v (sample_text count)
prefix_so_far w v done count p low =
    prefix_of_all w v v done done count [] p (0, omega arith, Appends-nil v) (sym (append-nil (sample_text done))) low

-- at any Err
pub at_err : {T E P : Type 0} (r : Result T E) → P → OnErr r P
at_err (Ok x) p = tt
at_err (Err e) p = p

-- of no points nothing is written
pub none_written : (w : Option (List ℕ)) → Appends w w (sample_text 0)
unfolding samples
none_written w = Appends-nil w

pub samples_none : samples 0 ≡ []
unfolding samples
samples_none = refl

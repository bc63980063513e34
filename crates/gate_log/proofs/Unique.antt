-- A file is a log of one list of bodies at most, or torn at one place, or no log; a head has one run, or is none.
use Rattle.std.proofs.Common.{◌≡◌, ⊎_elim, ℕ, zero, suc, ◌+◌, ◌≤◌, ◌<◌, ◌^◌, List, [], ◌∷◌, ◌++◌, length, take, drop, refl, sym, ◌∙◌, ap, arith, append_assoc, length-append}
use Rattle.std.specs.List.{flat_map}
use Rattle.std.specs.Prelude.{replicate}
use Rattle.std.specs.Int.{w32, from_be_bytes}
use Rattle.std.proofs.lemmas.Nat.{from_be_bytes-to_be_bytes_4}
use Rattle.std.proofs.lemmas.List.{take_at, drop_at, append_cancel_left, flat_map_more}
use Rattle.gate_log.specs.Head.{head_magic, BeginsClosed, HasNoHead, IsHead}
use Rattle.gate_log.specs.Readers.{BeginsWith}
use Rattle.gate_log.specs.Bodies.{magic, size_bytes, record_of, bytes_of, Fit, IsLog, IsShort, IsHeaderless, IsTorn}

-- the size of a record takes four bytes
pub length-size_bytes : (n : ℕ) → length (size_bytes n) ≡ 4
unfolding size_bytes
length-size_bytes n = refl

-- one more record
pub length-push : (bodies : List (List ℕ)) (body : List ℕ) → length (bytes_of (bodies ++ body ∷ [])) ≡ length (bytes_of bodies) + (5 + length body)
length-push bodies body =
    let is : bytes_of (bodies ++ body ∷ []) ≡ bytes_of bodies ++ record_of body = sym (flat_map_more record_of magic bodies body) in
    omega (
      arith,
      ap (λ (l : List ℕ). length l) is,
      length-append (bytes_of bodies) (record_of body),
      length-append (size_bytes (length body)) body,
      length-size_bytes (length body),
    )

-- the bytes of one more record stand behind those of the others
pub bytes_push : (bodies : List (List ℕ)) (body rest : List ℕ) → bytes_of (bodies ++ body ∷ []) ++ rest ≡ bytes_of bodies ++ (record_of body ++ rest)
bytes_push bodies body rest =
    ap (λ (l : List ℕ). l ++ rest) (sym (flat_map_more record_of magic bodies body))
    ∙ append_assoc (bytes_of bodies) (record_of body) rest

-- sizes with the same four bytes are one
pub size_unique : (m n : ℕ) → m < 2 ^ 32 → n < 2 ^ 32 → size_bytes m ≡ size_bytes n → m ≡ n
unfolding size_bytes
size_unique m n fits_m fits_n same = sym (from_be_bytes-to_be_bytes_4 m fits_m) ∙ ap (λ (l : List ℕ). from_be_bytes w32 l) same
    ∙ from_be_bytes-to_be_bytes_4 n fits_n

-- a record is read in one way
pub record_unique : (a b x y : List ℕ) → length a < 2 ^ 32 → length b < 2 ^ 32 → record_of a ++ x ≡ record_of b ++ y → (a ≡ b) × (x ≡ y)
record_unique a b x y fits_a fits_b same =
    let behind : size_bytes (length a) ++ (a ++ x) ≡ size_bytes (length b) ++ (b ++ y) = sym (append_assoc (size_bytes (length a)) a x)
    ∙ ap (λ (l : List ℕ). drop 1 l) same ∙ append_assoc (size_bytes (length b)) b y in
    let sizes : size_bytes (length a) ≡ size_bytes (length b) =
    sym (take_at (size_bytes (length a)) (a ++ x) 4 (length-size_bytes (length a))) ∙ ap (λ (l : List ℕ). take 4 l) behind
    ∙ take_at (size_bytes (length b)) (b ++ y) 4 (length-size_bytes (length b)) in
    let long : length a ≡ length b = size_unique (length a) (length b) fits_a fits_b sizes in
    let rest : a ++ x ≡ b ++ y =
    sym (drop_at (size_bytes (length a)) (a ++ x) 4 (length-size_bytes (length a))) ∙ ap (λ (l : List ℕ). drop 4 l) behind
    ∙ drop_at (size_bytes (length b)) (b ++ y) 4 (length-size_bytes (length b)) in (
      sym (take_at a x (length a) refl) ∙ ap (λ (l : List ℕ). take (length a) l) rest ∙ take_at b y (length a) (sym long),
      sym (drop_at a x (length a) refl) ∙ ap (λ (l : List ℕ). drop (length a) l) rest ∙ drop_at b y (length a) (sym long),
    )

records_unique : (one two : List (List ℕ)) (g h : ℕ) (x y : List ℕ) → Fit one → Fit two → (g ≡ 165 → ⊥) → (h ≡ 165 → ⊥)
    → flat_map record_of one ++ g ∷ x ≡ flat_map record_of two ++ h ∷ y → one ≡ two
records_unique [] [] g h x y fit_one fit_two g_shut h_shut same = refl
records_unique [] (b ∷ two) g h x y fit_one fit_two g_shut h_shut same = absurd (g_shut cc)
records_unique (a ∷ one) [] g h x y fit_one fit_two g_shut h_shut same = absurd (h_shut cc)
records_unique (a ∷ one) (b ∷ two) g h x y fit_one fit_two g_shut h_shut same =
    let split = record_unique a b _ _ fit_one.0 fit_two.0
    (sym (append_assoc (record_of a) (flat_map record_of one) (g ∷ x)) ∙ same ∙ append_assoc (record_of b) (flat_map record_of two) (h ∷ y)) in
    let rest : one ≡ two = records_unique one two g h x y fit_one.1 fit_two.1 g_shut h_shut split.1 in
    ap (λ (l : List ℕ). l ∷ one) split.0 ∙ ap (λ (l : List (List ℕ)). b ∷ l) rest

-- bytes are those of one log at most
pub log_unique : (one two : List (List ℕ)) (bytes : List ℕ) → IsLog one bytes → IsLog two bytes → one ≡ two
log_unique one two bytes is_one is_two =
    records_unique one two is_one.gate is_two.gate is_one.rest is_two.rest is_one.fit is_two.fit is_one.closed is_two.closed
    (append_cancel_left magic _ _ (sym (append_assoc magic (flat_map record_of one) (is_one.gate ∷ is_one.rest)) ∙ sym is_one.is ∙ is_two.is
    ∙ append_assoc magic (flat_map record_of two) (is_two.gate ∷ is_two.rest)))

run_unique : (m n : ℕ) (x y : List ℕ) → BeginsClosed x → BeginsClosed y → replicate m 165 ++ x ≡ replicate n 165 ++ y → m ≡ n
run_unique zero zero x y x_shut y_shut same = refl
run_unique zero (suc n) [] y x_shut y_shut same = cc
run_unique zero (suc n) (g ∷ x) y x_shut y_shut same = absurd (x_shut cc)
run_unique (suc m) zero x [] x_shut y_shut same = cc
run_unique (suc m) zero x (g ∷ y) x_shut y_shut same = absurd (y_shut cc)
run_unique (suc m) (suc n) x y x_shut y_shut same = ap (λ (k : ℕ). suc k) (run_unique m n x y x_shut y_shut (ap (λ (l : List ℕ). drop 1 l) same))

-- a head has one run of open gates
pub head_unique : (m n : ℕ) (bytes : List ℕ) → IsHead m bytes → IsHead n bytes → m ≡ n
head_unique m n bytes one two = run_unique m n one.rest two.rest one.ends two.ends (append_cancel_left head_magic _ _ (sym one.is ∙ two.is))

-- bytes that begin as a log does, and have a gate behind that, have a log's first nine bytes
pub begins_apart : (bodies : List (List ℕ)) (bytes : List ℕ) (front : BeginsWith bodies bytes) → 0 < length front.rest → IsHeaderless bytes → ⊥
begins_apart bodies bytes front some headerless = ⊎_elim (λ few. too_few few) (λ differs. differs same) headerless
  where
    whole : bytes ≡ magic ++ (flat_map record_of bodies ++ front.rest)
    whole = front.is ∙ append_assoc magic (flat_map record_of bodies) front.rest

    same : take 8 bytes ≡ magic
    same = ap (λ (l : List ℕ). take 8 l) whole ∙ take_at magic (flat_map record_of bodies ++ front.rest) 8 refl

    too_few : length bytes < 9 → ⊥
    too_few few = omega (arith, few, some, ap (λ (l : List ℕ). length l) whole, length-append (flat_map record_of bodies) front.rest)

-- a log has its nine bytes
pub header_apart : (bodies : List (List ℕ)) (bytes : List ℕ) → IsLog bodies bytes → IsHeaderless bytes → ⊥
header_apart bodies bytes log headerless =
    begins_apart bodies bytes (record { rest = log.gate ∷ log.rest; is = log.is; fit = log.fit }) (omega arith) headerless

-- a whole record isn't one that runs past the end
pub record_not_short : (b more rest : List ℕ) → length b < 2 ^ 32 → rest ≡ size_bytes (length b) ++ (b ++ more) → 0 < length more → IsShort rest → ⊥
record_not_short b more rest fits whole some short = ⊎_elim (λ few. too_few few) (λ long. too_long long) short
  where
    total : length rest ≡ 4 + length b + length more
    total = omega (
      arith,
      ap (λ (l : List ℕ). length l) whole,
      length-append (size_bytes (length b)) (b ++ more),
      length-append b more,
      length-size_bytes (length b),
    )

    too_few : length rest < 4 → ⊥
    too_few few = omega (arith, total)

    too_long : (n : ℕ) × (n < 4294967296) × (take 4 rest ≡ size_bytes n) × (length rest ≤ 4 + n) → ⊥
    too_long long =
        let same : length b ≡ long.0 = size_unique (length b) long.0 fits long.1
        (sym (ap (λ (l : List ℕ). take 4 l) whole ∙ take_at (size_bytes (length b)) (b ++ more) 4 (length-size_bytes (length b))) ∙ long.2) in
        omega (arith, total, same, long.3, some)

records_apart : (one two : List (List ℕ)) (g : ℕ) (rest r : List ℕ) → Fit one → Fit two → (g ≡ 165 → ⊥) → IsShort rest
    → flat_map record_of one ++ 165 ∷ rest ≡ flat_map record_of two ++ g ∷ r → ⊥
records_apart [] [] g rest r fit_one fit_two shut short same = shut cc
records_apart [] (b ∷ two) g rest r fit_one fit_two shut short same =
    record_not_short b (flat_map record_of two ++ g ∷ r) rest fit_two.0
    (ap (λ (l : List ℕ). drop 1 l) (same ∙ append_assoc (record_of b) (flat_map record_of two) (g ∷ r)) ∙ append_assoc (size_bytes (length b)) b _)
    (omega (arith, length-append (flat_map record_of two) (g ∷ r))) short
records_apart (a ∷ one) [] g rest r fit_one fit_two shut short same = shut cc
records_apart (a ∷ one) (b ∷ two) g rest r fit_one fit_two shut short same =
    let split = record_unique a b _ _ fit_one.0 fit_two.0
    (sym (append_assoc (record_of a) (flat_map record_of one) (165 ∷ rest)) ∙ same ∙ append_assoc (record_of b) (flat_map record_of two) (g ∷ r)) in
    records_apart one two g rest r fit_one.1 fit_two.1 shut short split.1

-- a log isn't torn
pub torn_apart : (bodies : List (List ℕ)) (offset : ℕ) (bytes : List ℕ) → IsLog bodies bytes → IsTorn offset bytes → ⊥
torn_apart bodies offset bytes log torn =
    records_apart torn.bodies bodies log.gate torn.rest log.rest torn.fit log.fit log.closed torn.short
    (append_cancel_left magic _ _ (sym (append_assoc magic (flat_map record_of torn.bodies) (165 ∷ torn.rest)) ∙ sym torn.is ∙ log.is
    ∙ append_assoc magic (flat_map record_of bodies) (log.gate ∷ log.rest)))

torn_whole : (offset : ℕ) (bytes : List ℕ) (torn : IsTorn offset bytes) → bytes ≡ magic ++ (flat_map record_of torn.bodies ++ 165 ∷ torn.rest)
torn_whole offset bytes torn = torn.is ∙ append_assoc magic (flat_map record_of torn.bodies) (165 ∷ torn.rest)

-- a torn log has its nine bytes
pub torn_header_apart : (offset : ℕ) (bytes : List ℕ) → IsTorn offset bytes → IsHeaderless bytes → ⊥
torn_header_apart offset bytes torn headerless =
    begins_apart torn.bodies bytes (record { rest = 165 ∷ torn.rest; is = torn.is; fit = torn.fit }) (omega arith) headerless

-- two torn records behind records are one
rests_unique : (one two : List (List ℕ)) (x y : List ℕ) → Fit one → Fit two → IsShort x → IsShort y
    → flat_map record_of one ++ 165 ∷ x ≡ flat_map record_of two ++ 165 ∷ y → one ≡ two
rests_unique [] [] x y fit_one fit_two x_short y_short same = refl
rests_unique [] (b ∷ two) x y fit_one fit_two x_short y_short same =
    absurd (
    record_not_short b (flat_map record_of two ++ 165 ∷ y) x fit_two.0
    (ap (λ (l : List ℕ). drop 1 l) (same ∙ append_assoc (record_of b) (flat_map record_of two) (165 ∷ y)) ∙ append_assoc (size_bytes (length b)) b _)
    (omega (arith, length-append (flat_map record_of two) (165 ∷ y))) x_short
    )
rests_unique (a ∷ one) [] x y fit_one fit_two x_short y_short same =
    absurd (
    record_not_short a (flat_map record_of one ++ 165 ∷ x) y fit_one.0
    (ap (λ (l : List ℕ). drop 1 l) (sym same ∙ append_assoc (record_of a) (flat_map record_of one) (165 ∷ x)) ∙ append_assoc (size_bytes (length a)) a _)
    (omega (arith, length-append (flat_map record_of one) (165 ∷ x))) y_short
    )
rests_unique (a ∷ one) (b ∷ two) x y fit_one fit_two x_short y_short same =
    let split = record_unique a b _ _ fit_one.0 fit_two.0
    (sym (append_assoc (record_of a) (flat_map record_of one) (165 ∷ x)) ∙ same ∙ append_assoc (record_of b) (flat_map record_of two) (165 ∷ y)) in
    let rest : one ≡ two = rests_unique one two x y fit_one.1 fit_two.1 x_short y_short split.1 in
    ap (λ (l : List ℕ). l ∷ one) split.0 ∙ ap (λ (l : List (List ℕ)). b ∷ l) rest

-- a log is torn at one place
pub torn_unique : (m n : ℕ) (bytes : List ℕ) → IsTorn m bytes → IsTorn n bytes → m ≡ n
torn_unique m n bytes one two =
    let same : one.bodies ≡ two.bodies = rests_unique one.bodies two.bodies one.rest two.rest one.fit two.fit one.short two.short
    (append_cancel_left magic _ _ (sym (torn_whole m bytes one) ∙ torn_whole n bytes two)) in
    one.at ∙ ap (λ (l : List (List ℕ)). length (bytes_of l)) same ∙ sym two.at

-- a head has its eight bytes
pub head_apart : (run : ℕ) (bytes : List ℕ) → IsHead run bytes → HasNoHead bytes → ⊥
head_apart run bytes head none = ⊎_elim (λ few. too_few few) (λ differs. differs same) none
  where
    same : take 8 bytes ≡ head_magic
    same = ap (λ (l : List ℕ). take 8 l) head.is ∙ take_at head_magic (replicate run 165 ++ head.rest) 8 refl

    too_few : length bytes < 8 → ⊥
    too_few few = omega (arith, few, ap (λ (l : List ℕ). length l) head.is)

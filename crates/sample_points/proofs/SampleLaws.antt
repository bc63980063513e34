-- The points of the sample recording are points, are spelled so, and are read again.
use Rattle.std.proofs.Common.{◌≡◌, ℕ, zero, suc, ◌+◌, ◌*◌, ◌^◌, ◌%◌, ◌<◌, ◌≤◌, pos, Bool, true, false, List, [], ◌∷◌, ◌++◌, length, map, refl, sym, ap, ◌∙◌, subst, arith, append_assoc, append-nil, length-append}
use Rattle.std.specs.Prelude.{◌&&◌, All, IsTrue, codes, nat_lt}
use Rattle.std.specs.FinMap.{empty, entries, entries-insert, insert, len-entries, put}
use Rattle.std.specs.Fmt.{decimal, digits}
use Rattle.std.specs.List.{list_all}
use Rattle.std.specs.Str.{IsAscii, is_utf8}
use Rattle.std.proofs.lemmas.Cmp.{nat_list_cmp_total}
use Rattle.std.proofs.lemmas.Str.{IsUtf8-from_ascii, is_utf8-from_IsUtf8}
use Rattle.std.proofs.lemmas.Fmt.{length-decimal-le}
use Rattle.std.proofs.lemmas.List.{map_push}
use Rattle.std.proofs.lemmas.Bool.Decides.{nat_tests}
use Rattle.std.proofs.lemmas.List.Concat.{flat_map-append}
use Rattle.std.proofs.lemmas.List.Elements.{All-append, All-cons, All-nil}
use Rattle.kap_base.proofs.EntryLaws.{no_entries}
use Rattle.kap_base.proofs.TestLaws.{first_of, second_of}
use Rattle.kap_base.specs.Maps.{byte_order}
use Rattle.kap_base.specs.Points.{PointValue, IsPoint}
use Rattle.kap_base.specs.declared.value.Value.TheVariants as values
use Rattle.kap_base.specs.Texts.{is_name, line_feed}
use Rattle.line_points.specs.declared.line.TheConstants.{LINE_LIMIT}
use Rattle.line_points.specs.declared.part.Part.TheVariants as parts
use Rattle.line_points.specs.Print.{Print, part_text, value_text}
use Rattle.recording_file.specs.Printed.{IsRecordable, read_again, record_text}
use Rattle.recording_file.specs.Recording.{Recording}
use Rattle.recording_file.proofs.PrintLaws.{records_again}
use Rattle.sample_points.specs.Samples.{fields_of, sample_of, sample_record, sample_text, samples}

-- ---- one point

-- a byte of ASCII
abbrev pub is_low : ℕ → Bool
is_low b = nat_lt b 128

are_low : (bytes : List ℕ) → IsTrue (list_all is_low bytes) → IsAscii bytes
are_low [] low i = omega arith
are_low (b ∷ bytes) low zero = let lt = first_of (is_low b) (list_all is_low bytes) low in grind (arith, nat_tests)
are_low (b ∷ bytes) low (suc i) = are_low bytes (second_of (is_low b) (list_all is_low bytes) low) i

low_is_utf8 : (bytes : List ℕ) → IsTrue (list_all is_low bytes) → IsTrue (is_utf8 bytes)
low_is_utf8 bytes low = is_utf8-from_IsUtf8 bytes (IsUtf8-from_ascii bytes (are_low bytes low))

-- the name of each host is a name
host_is_name : (r : ℕ) → r < 8 → IsTrue (is_name (codes "h" ++ decimal r))
unfolding digits
host_is_name zero lt = low_is_utf8 (codes "h" ++ decimal 0) refl
host_is_name (suc zero) lt = low_is_utf8 (codes "h" ++ decimal 1) refl
host_is_name (suc (suc zero)) lt = low_is_utf8 (codes "h" ++ decimal 2) refl
host_is_name (suc (suc (suc zero))) lt = low_is_utf8 (codes "h" ++ decimal 3) refl
host_is_name (suc (suc (suc (suc zero)))) lt = low_is_utf8 (codes "h" ++ decimal 4) refl
host_is_name (suc (suc (suc (suc (suc zero))))) lt = low_is_utf8 (codes "h" ++ decimal 5) refl
host_is_name (suc (suc (suc (suc (suc (suc zero)))))) lt = low_is_utf8 (codes "h" ++ decimal 6) refl
host_is_name (suc (suc (suc (suc (suc (suc (suc zero))))))) lt = low_is_utf8 (codes "h" ++ decimal 7) refl
host_is_name (suc (suc (suc (suc (suc (suc (suc (suc r)))))))) lt = absurd (omega arith)

-- and no byte of it is written behind a backslash
host_is_plain : (r : ℕ) → r < 8 → part_text parts.Key (codes "h" ++ decimal r) ≡ codes "h" ++ decimal r
unfolding digits
host_is_plain zero lt = refl
host_is_plain (suc zero) lt = refl
host_is_plain (suc (suc zero)) lt = refl
host_is_plain (suc (suc (suc zero))) lt = refl
host_is_plain (suc (suc (suc (suc zero)))) lt = refl
host_is_plain (suc (suc (suc (suc (suc zero))))) lt = refl
host_is_plain (suc (suc (suc (suc (suc (suc zero)))))) lt = refl
host_is_plain (suc (suc (suc (suc (suc (suc (suc zero))))))) lt = refl
host_is_plain (suc (suc (suc (suc (suc (suc (suc (suc r)))))))) lt = absurd (omega arith)

-- a map with one key has one entry
one_entry : {V : Type 0} (key : List ℕ) (value : V) → entries (insert (empty {K = List ℕ} {X = V} {R = byte_order}) key value) ≡ (key, value) ∷ []
one_entry key value = entries-insert nat_list_cmp_total empty key value ∙ ap (put byte_order key value) no_entries

-- two tests of the only entry of a map
both_pass : (a b : Bool) → IsTrue a → IsTrue b → IsTrue ((a && b) && true)
both_pass true true p q = refl
both_pass true false p q = q
both_pass false b p q = p

sample_is_point : (i : ℕ) → i ≤ 1000000 → IsPoint (sample_of i)
unfolding sample_of
sample_is_point i within = record {
  db = low_is_utf8 (codes "telegraf") refl;
  rp = low_is_utf8 (codes "autogen") refl;
  name = low_is_utf8 (codes "cpu") refl;
  tags = rw (one_entry (codes "host") (codes "h" ++ decimal (i % 8))) (both_pass (is_utf8 (codes "host")) (is_name (codes "h" ++ decimal (i % 8))) (low_is_utf8 (codes "host") refl) (host_is_name (i % 8) (omega arith)));
  fields = rw (one_entry (codes "usage_idle") (values.Int (pos (37 * i % 101)))) (both_pass (is_utf8 (codes "usage_idle")) (nat_lt (37 * i % 101) (2 ^ 63)) (low_is_utf8 (codes "usage_idle") refl) (grind (arith, nat_tests)));
  some_field = rw (len-entries (fields_of (pos (37 * i % 101)))) (rw (one_entry (codes "usage_idle") (values.Int (pos (37 * i % 101)))) refl);
  dims = refl;
  time = grind (arith, nat_tests);
}

pub point_is_sample : (i : ℕ) (p : PointValue) → p ≡ sample_of i → i ≤ 1000000 → IsPoint p
point_is_sample i p is within = subst (λ (q : PointValue). IsPoint q) (sym is) (sample_is_point i within)

-- ---- its record

-- the parts of a record, and the same without the lists between them
joined : (h d t : List ℕ) → codes "telegraf\nautogen\ncpu,host=" ++ ((h ++ []) ++ (32 ∷ ((codes "usage_idle=" ++ (d ++ codes "i")) ++ []) ++ (32 ∷ t))) ++ line_feed ∷ []
    ≡ codes "telegraf\nautogen\ncpu,host=" ++ h ++ codes " usage_idle=" ++ d ++ codes "i " ++ t ++ line_feed ∷ []
joined h d t = simp (append_assoc, append-nil) refl

pub record_is_spelled : (i : ℕ) → record_text (sample_of i) ≡ sample_record i
unfolding sample_of sample_record value_text
record_is_spelled i =
    rw (one_entry (codes "host") (codes "h" ++ decimal (i % 8))) (rw (one_entry (codes "usage_idle") (values.Int (pos (37 * i % 101))))
    (ap (λ (h : List ℕ). codes "telegraf\nautogen\ncpu,host=" ++ ((h ++ []) ++ (32 ∷ ((codes "usage_idle=" ++ (decimal (37 * i % 101) ++ codes "i")) ++ []) ++ (32 ∷ decimal (i * 10 ^ 9)))) ++ line_feed ∷ []) (host_is_plain (i % 8) (omega arith))
    ∙ joined (codes "h" ++ decimal (i % 8)) (decimal (37 * i % 101)) (decimal (i * 10 ^ 9))))

-- ---- the whole recording

parts_length : (a h b d c t e : List ℕ) → length (a ++ h ++ b ++ d ++ c ++ t ++ e) ≡ length a + length h + length b + length d + length c + length t + length e
parts_length a h b d c t e = omega (
  arith,
  length-append (a ++ h ++ b ++ d ++ c ++ t) e,
  length-append (a ++ h ++ b ++ d ++ c) t,
  length-append (a ++ h ++ b ++ d) c,
  length-append (a ++ h ++ b) d,
  length-append (a ++ h) b,
  length-append a h,
)

record_length : (h d t : List ℕ) → length (codes "telegraf\nautogen\ncpu,host=h" ++ h ++ codes " usage_idle=" ++ d ++ codes "i " ++ t ++ line_feed ∷ []) ≡ 27 + length h + 12 + length d + 2 + length t + 1
record_length h d t = parts_length (codes "telegraf\nautogen\ncpu,host=h") h (codes " usage_idle=") d (codes "i ") t (line_feed ∷ [])

-- no number of a record is long
record_is_short : (i : ℕ) → i ≤ 1000000 → length (record_text (sample_of i)) ≤ 64
unfolding sample_record
record_is_short i within = rw (record_is_spelled i) (omega (
  arith,
  record_length (decimal (i % 8)) (decimal (37 * i % 101)) (decimal (i * 10 ^ 9)),
  length-decimal-le 1 (i % 8) (omega arith) (omega arith) (omega arith),
  length-decimal-le 3 (37 * i % 101) (omega arith) (omega arith) (omega arith),
  length-decimal-le 16 (i * 10 ^ 9) (omega arith) (omega arith) (omega arith),
))

-- a line is no longer than its record
line_within_record : (p : PointValue) → length (Print p) ≤ length (record_text p)
line_within_record p = omega (arith, length-append p.db (line_feed ∷ (p.rp ++ (line_feed ∷ (Print p ++ line_feed ∷ [])))), length-append p.rp (line_feed ∷ (Print p ++ line_feed ∷ [])), length-append (Print p) (line_feed ∷ []))

print_is_short : (i : ℕ) → i ≤ 1000000 → length (Print (sample_of i)) ≤ LINE_LIMIT
print_is_short i within = omega (arith, line_within_record (sample_of i), record_is_short i within)

sample_is_recordable : (i : ℕ) → i ≤ 1000000 → IsRecordable (sample_of i)
unfolding sample_of
sample_is_recordable i within = record {
  point = sample_is_point i within;
  db = refl;
  rp = refl;
  db_within = omega arith;
  rp_within = omega arith;
  line_within = print_is_short i within;
}

all_recordable : (n : ℕ) → n ≤ 1000000 → All IsRecordable (samples n)
unfolding samples
all_recordable zero within = All-nil IsRecordable
all_recordable (suc n) within = All-append IsRecordable (samples n) (sample_of (suc n) ∷ []) (all_recordable n (omega arith)) (All-cons IsRecordable (sample_of (suc n)) [] (sample_is_recordable (suc n) within) (All-nil IsRecordable))

all_short : (n : ℕ) → n ≤ 1000000 → length (sample_text n) ≤ n * 64
unfolding samples
all_short zero within = omega arith
all_short (suc n) within =
    rw (flat_map-append record_text (samples n) (sample_of (suc n) ∷ [])) (omega (
      arith,
      all_short n (omega arith),
      record_is_short (suc n) within,
      length-append (sample_text n) (record_text (sample_of (suc n)) ++ []),
      length-append (record_text (sample_of (suc n))) [],
    ))

same_again : (n : ℕ) → map read_again (samples n) ≡ samples n
unfolding samples sample_of
same_again zero = refl
same_again (suc n) = map_push read_again (samples n) (sample_of (suc n)) ∙ ap (λ (ps : List PointValue). ps ++ sample_of (suc n) ∷ []) (same_again n)

pub samples_again : (n : ℕ) → n ≤ 1000000 → Recording (sample_text n) (samples n)
samples_again n within = subst (λ (ps : List PointValue). Recording (sample_text n) ps) (same_again n) (records_again (samples n) (all_recordable n within) (let short = all_short n within in omega arith))

-- How the level of a group and its numbers are spelled: the level, the numbers of the expressions, those of the resets.
use Rattle.std.specs.Prelude.{ℕ, ◌<◌, ◌^◌, List, refl}
use Rattle.std.specs.Int.{w64}
use Rattle.kap_base.specs.declared.items.Level.{Level}
use Rattle.state_code.specs.Laws.{as_parts, pair_spelled, u64_spelled}
use Rattle.state_code.specs.Levels.{FitsLevel, level_spelled, read_level, spell_level}
use Rattle.state_code.specs.Spelling.{FitsPair, IsSpelling, Reading, read_as, read_number, read_pair, spell_number, spell_pair}
use Rattle.alert_node.specs.declared.watch.Counts.{Counts}
use Rattle.alert_node.specs.declared.watch.Watch.{Watch}

-- numbers as a tuple: those of INFO, of WARNING and of CRITICAL
abbrev pub counts_parts : Counts → ℕ × (ℕ × ℕ)
counts_parts counts = (counts.info, (counts.warn, counts.crit))

-- the numbers, from these parts
abbrev pub counts_of : ℕ × (ℕ × ℕ) → Counts
counts_of parts = record { info = parts.0; warn = parts.1.0; crit = parts.1.1 }

-- each number is below 2^64
abbrev pub FitsCounts : Counts → Type 0
FitsCounts counts = FitsPair (λ n. n < 2 ^ 64) (FitsPair (λ n. n < 2 ^ 64) (λ n. n < 2 ^ 64)) (counts_parts counts)

-- the numbers of INFO, of WARNING and of CRITICAL
abbrev pub spell_counts : Counts → List ℕ
spell_counts counts =
    spell_pair (spell_number w64) (spell_pair (spell_number w64) (spell_number w64)) (counts_parts counts)

-- and the numbers that stand there
abbrev pub read_counts : Reading Counts
read_counts = read_as counts_of (read_pair (read_number w64) (read_pair (read_number w64) (read_number w64)))

-- what is spelled is read again, and only that
pub counts_spelled : IsSpelling FitsCounts spell_counts read_counts
counts_spelled =
    as_parts (pair_spelled u64_spelled (pair_spelled u64_spelled u64_spelled)) counts_of counts_parts (λ counts. refl)
    (λ parts. refl)

-- what is kept of a group as a tuple: the level, the numbers of the expressions, those of the resets
abbrev pub watch_parts : Watch → Level × (Counts × Counts)
watch_parts watch = (watch.level, (watch.expressions, watch.resets))

-- what is kept of a group, from these parts
abbrev pub watch_of : Level × (Counts × Counts) → Watch
watch_of parts = record { level = parts.0; expressions = parts.1.0; resets = parts.1.1 }

-- its level and its numbers have a spelling
abbrev pub FitsWatch : Watch → Type 0
FitsWatch watch = FitsPair FitsLevel (FitsPair FitsCounts FitsCounts) (watch_parts watch)

-- the level, the numbers of the expressions, and those of the resets
abbrev pub spell_watch : Watch → List ℕ
spell_watch watch = spell_pair spell_level (spell_pair spell_counts spell_counts) (watch_parts watch)

-- and the level and the numbers that stand there
abbrev pub read_watch : Reading Watch
read_watch = read_as watch_of (read_pair read_level (read_pair read_counts read_counts))

-- what is spelled is read again, and only that
pub watch_spelled : IsSpelling FitsWatch spell_watch read_watch
watch_spelled =
    as_parts (pair_spelled level_spelled (pair_spelled counts_spelled counts_spelled)) watch_of watch_parts
    (λ watch. refl) (λ parts. refl)

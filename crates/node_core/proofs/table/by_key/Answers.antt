use Rattle.std.proofs.Common.{◌≡◌, ℕ, List, [], Ok, ◌∙◌}
use Rattle.std.specs.Prelude.{⊤}
use Rattle.std.specs.Str.{bytes_eq}
use Rattle.std.proofs.lemmas.Iterator.Adapters.{YieldsList-from_vec, fact_from_collect}
use Rattle.indexmap.specs.IndexMap.{insert_all, IsFromIterResult}
use Rattle.kap_base.proofs.KeyMapLaws.{holds}
use Rattle.node_core.proofs.TableLaws.{put_rising}
use Rattle.node_core.proofs.table.by_key.Goals as goal

pub returns : goal.returns
returns g c =
    let put = fact_from_collect {E = ⊤} (λ (es : List (List ℕ × g.row.C.Denot)) m. (m.entries ≡ insert_all bytes_eq [] es) × IsFromIterResult bytes_eq es m) (Ok c.in_ok-collect.field-0) c.in_ok-collect.ensures.ran
    (YieldsList-from_vec c.args.cells.items c.into_iter.ensures.rest (c.into_iter.ensures.len ∙ c.args.cells.ok.0)) in
    put_rising c.args.cells.items c.in_ok-collect.field-0.entries (holds _ c.requires) put.1.0

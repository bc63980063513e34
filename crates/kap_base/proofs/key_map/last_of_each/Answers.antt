use Rattle.kap_base.proofs.ManyLaws.{put_one}
use Rattle.kap_base.proofs.KeyMapLaws.{empty-from_sorted}
use Rattle.kap_base.proofs.key_map.last_of_each.Goals as goal

pub putting-init : goal.putting-init
putting-init g c = record { rising = rw c.in_ok-kept.ensures.items; same = empty-from_sorted _ c.in_ok-kept.ensures.items }

pub putting-preserved : goal.putting-preserved
putting-preserved g c =
    let p = put_one c.putting.kept.items c.put_behind.new.entries.items c.putting.yielded c.in-Some.key c.in-Some.value c.putting.invariant.rising c.putting.invariant.same c.in_ok-put_behind.ensures.ok in
    record { rising = p.0; same = p.1 }

-- The machine of an alert goes on as the definition says.
use Rattle.std.specs.Prelude.{◌≡◌, ℕ, List, [], ◌∷◌, ◌++◌, refl}
use Rattle.std.proofs.Common.{ap, sym}
use Rattle.kap_base.specs.Points.{PointValue}
use Rattle.node_core.specs.declared.said.Said.{Said}
use Rattle.node_core.specs.Groups.{Came}
use Rattle.node_core.specs.Meaning.{Turn}
use Rattle.alert_node.specs.declared.alert.Alert.{Alert}
use Rattle.alert_node.specs.declared.watch.Watch.{Watch}
use Rattle.alert_node.specs.Alerts.{alert_says, alert_step}
use Rattle.alert_node.specs.Watches.{watch_in, watched}
use Rattle.std.specs.Prelude.{fold}

-- what is kept behind one point more
watch_more : (alert : Alert) (watch : Watch) (cs : List Came) (c : Came)
    → fold (λ w d. watched alert w d.1) watch (cs ++ c ∷ [])
    ≡ watched alert (fold (λ w d. watched alert w d.1) watch cs) c.1
watch_more alert watch [] c = refl
watch_more alert watch (d ∷ cs) c = watch_more alert (watched alert watch d.1) cs c

turn : Said → Watch → Turn Watch
turn said watch = record { state = watch; said = said }

-- what is kept, and what is said, of one point more
pub alert_goes_on : (alert : Alert) (before : List Came) (port : ℕ) (p : PointValue)
    → alert_step alert (watch_in alert before) port p
    ≡ record { state = watch_in alert (before ++ (port, p) ∷ []); said = alert_says alert before port p }
unfolding turn
alert_goes_on alert before port p =
    ap (turn (alert_says alert before port p)) (sym (watch_more alert (watch_in alert []) before (port, p)))

use Rattle.std.proofs.Common.{rules, ◌≡◌, ◌∙◌, sym, ap, subst, ℕ, Bool, false, List, [], length, replicate}
use Rattle.hz_net.specs.Network.{network_of, bit_at}
use Rattle.hz_gmw.specs.Instability.{unstable_variables}
use Rattle.hz_gmw.specs.Watches.{watched_variables}
use Rattle.hz_gmw.specs.Replayer.{Replayer, StandsFor}
use Rattle.hz_gmw.proofs.WatchLemmas.{watched-fresh}
use Rattle.hz_gmw.proofs.ReplayLemmas.{replayed-is, stands-at}
use Rattle.hz_gmw.proofs.replay.Replay.new.Goals as goal

pub returns-clause-at : goal.returns-clause-at
returns-clause-at c =
    let netlist = c.args.net.now in
    let net = network_of netlist in
    let current = c.in_ok-current.current in
    let watch = c.in_ok-watch.watch in
    let bits = replicate (length net) false in
    let inputs = replicate netlist.inputs false in
    let marked_is : c.in_ok-marked.marked.items ≡ bits = c.in_ok-marked.ensures.items_if_clones_equal (λ y clone. search rules) ∙ ap (λ (n : ℕ). replicate n false) c.len-variables.ensures.len in
    let begun_is : c.in_ok-begun.begun.items ≡ bits = c.in_ok-begun.ensures.items_if_clones_equal (λ y clone. search rules) ∙ ap (λ (n : ℕ). replicate n false) c.len-variables.ensures.len in
    let watched = watched_variables net current.input.items current.state.items (bit_at watch.changed) (bit_at watch.been_stable) in
    let watched_is : watched ≡ unstable_variables net inputs bits =
    watched-fresh net current.input.items current.state.items watch.changed watch.been_stable (length net) (length netlist.names) c.in_ok-watch.ensures.changed c.in_ok-watch.ensures.been_stable ∙
    (ap (λ (i : List Bool). unstable_variables net i current.state.items) c.in_ok-current.ensures.input ∙ ap (unstable_variables net inputs) c.in_ok-current.ensures.state) in
    replayed-is netlist inputs current.input.items bits c.in_ok-begun.begun.items bits current.state.items c.in_ok-marked.marked.items watched c.in_ok-current.ensures.input begun_is c.in_ok-current.ensures.state marked_is watched_is

pub returns-clause-stands : goal.returns-clause-stands
returns-clause-stands c =
    let netlist = c.args.net.now in
    let bits = replicate (length (network_of netlist)) false in
    subst (λ (now : Replayer). StandsFor now []) (sym (returns-clause-at c)) (stands-at netlist (replicate netlist.inputs false) bits bits)

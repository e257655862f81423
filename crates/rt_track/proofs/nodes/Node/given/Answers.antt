use Rattle.std.proofs.Common.{subst, sym}
use Rattle.rt_track.specs.Inside.Nodes.{IsGiven, IsJoined, state_of}
use Rattle.rt_track.proofs.Solving.{join_given}
use Rattle.rt_track.proofs.nodes.Node.given.Goals as goal

pub returns-in-Join : goal.returns-in-Join
returns-in-Join c =
    let states = c.args.states.now in
    subst (λ n. IsGiven states n c.joined.result) (sym c.in-Join.is)
    (join_given states c.in-Join.left c.in-Join.right c.joined.result
    (subst (λ o. IsJoined o (state_of states c.in-Join.right) c.joined.result) c.state.ensures
    (subst (λ o. IsJoined c.state.result o c.joined.result) c.state-in-Join.ensures c.joined.ensures)))

use Rattle.std.proofs.Common.{◌≡◌, ◌+◌, ◌*◌, ℕ, length, List, get_or, ap, subst, ◌∙◌, refl, rules, ◌∷◌, [], ◌++◌}
use Rattle.std.specs.Prelude.{slice_index_or}
use Rattle.std.specs.Vec.{with_item, with_items}
use Rattle.std.proofs.lemmas.List.{get_or_read_under, with_items_is}
use Rattle.cg_model.specs.declared.kernel.Node.{Node}
use Rattle.cg_model.specs.Kernel as plain
use Rattle.cg_model.specs.Work.{sent}
use Rattle.cg_pad.proofs.Args.{on}
use Rattle.cg_turns.specs.declared.frame.Frame.{Frame}
use Rattle.cg_turns.specs.Step.{DoesWork}
use Rattle.cg_turns.proofs.Worked.{worked, reached_worked, operands_of}
use Rattle.cg_turns.specs.Watched.{IsReached}
use Rattle.cg_turns.proofs.frame.step.Goals as goal

pub returns-clause-steps : goal.returns-clause-steps
returns-clause-steps c =
    let K = c.args.program.kernel.now in
    let f = c.args.frame.now in
    let N = c.index-nodes-place.result in
    let m = plain.size K in
    let at = c.args.turn.row * length c.nodes-nodes.result.now + c.args.place in
    let g : Frame = record { window = with_item f.window at c.value-value.result; memory = c.store.new.memory; streams = with_items f.streams c.send.new.streams; outside = f.outside + c.missed.result } in
    let node_is : N ≡ plain.node K c.args.place = get_or_read_under K.nodes c.args.place m N plain.no_node (subst (λ (xs : List Node). N ≡ get_or xs c.args.place N) c.nodes-nodes.ensures.nodes c.index-nodes-place.is) c.requires.place refl in
    let size_is : length c.nodes-nodes.result.now ≡ m = ap length c.nodes-nodes.ensures.nodes in
    let streams_long : length c.send.new.streams ≡ length f.streams.items = search rules in
    let streams_is : g.streams.items ≡ c.send.new.streams = with_items_is f.streams c.send.new.streams (search rules) in
    let args = c.argument-a.result ∷ c.argument-b.result ∷ c.argument-c.result ∷ [] in
    let sent : (port : ℕ) → slice_index_or c.send.new.streams port [] ≡ slice_index_or f.streams.items port [] ++ sent port (on N.op N.port c.args.turn.number args) = λ port. c.in_ok-send.ensures.ok port ∙ ap (λ (xs : List (List ℕ)). slice_index_or xs port [] ++ sent port (on N.op N.port c.args.turn.number args)) c.deref_mut.ensures.value in
    subst (λ (X : Node). DoesWork c.args.program.image.now (c.args.turn.row * m + c.args.place) (on X.op X.port c.args.turn.number (operands_of X m c.args.turn.number c.args.turn.row f)) f g) node_is
    (worked N m c.args.turn.number c.args.turn.row f c.argument-a.result c.argument-b.result c.argument-c.result (search rules) (search rules) (search rules) c.args.program.image.now (c.args.turn.row * m + c.args.place) c.value-value.result c.missed.result g (search rules) (search rules) (search rules) (ap length streams_is ∙ streams_long) (λ port. ap (λ (xs : List (List ℕ)). slice_index_or xs port []) streams_is ∙ sent port) (search rules) (search rules))

pub returns-clause-reached : goal.returns-clause-reached
returns-clause-reached c =
    let K = c.args.program.kernel.now in
    let f = c.args.frame.now in
    let N = c.index-nodes-place.result in
    let m = plain.size K in
    let node_is : N ≡ plain.node K c.args.place = get_or_read_under K.nodes c.args.place m N plain.no_node (subst (λ (xs : List Node). N ≡ get_or xs c.args.place N) c.nodes-nodes.ensures.nodes c.index-nodes-place.is) c.requires.place refl in
    let size_is : c.size.result ≡ length f.memory = search rules in
    subst (λ (X : Node). IsReached (length f.memory) (on X.op X.port c.args.turn.number (operands_of X m c.args.turn.number c.args.turn.row f)) c.reached-word.result) node_is
    (reached_worked N m c.args.turn.number c.args.turn.row f c.argument-a.result c.argument-b.result c.argument-c.result (search rules) (search rules) (search rules) (length f.memory) c.reached-word.result
    (subst (λ (n : ℕ). IsReached n (on N.op N.port c.args.turn.number (c.argument-a.result ∷ c.argument-b.result ∷ c.argument-c.result ∷ [])) c.reached-word.result) size_is c.reached-word.ensures))

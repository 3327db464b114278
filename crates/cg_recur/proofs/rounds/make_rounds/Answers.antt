use Rattle.std.proofs.Common.{◌≡◌, length, sym, ◌∙◌, subst, arith}
use Rattle.std.proofs.lemmas.Bool.{false≢true}
use Rattle.cg_recur.specs.Log.{IsSettled, AreSlack, IsRelaxed}
use Rattle.cg_recur.proofs.Ends.{stays, still, slack_tight, tight, next_round}
use Rattle.cg_recur.proofs.rounds.make_rounds.Goals as goal
use Rattle.cg_recur.proofs.rounds.make_rounds.Goals.{in-Same, in-Raised}

pub loop-e-preserved : goal.loop-e-preserved
loop-e-preserved c =
    let es = c.args.edges.now in
    let ii = c.args.ii in
    let n = c.args.nodes in
    let i = c.loop-e.invariant in
    let log = c.loop-e.log.items in
    let log' = c.relax.new.log.items in
    let last = c.loop-e.last.items in
    let last' = c.relax.new.last.items in
    elim c.match-branch-4.branch [
      | in-Same w ↦
          (let h = subst (IsRelaxed es ii n c.loop-e.e log last log' last') w.in-Same.is c.in_ok-relax.ensures in
          let (a, b, d) = stays es ii n c.loop-e.e log log' last last' c.loop-r.r h.0 h.1 i.2 in
          (a, b, d, λ q. still es ii c.loop-e.e log log' last last' h.2 (i.3 (sym w.quiet-is ∙ q))))
      | in-Raised w ↦
          (let h = subst (IsRelaxed es ii n c.loop-e.e log last log' last') w.in-Raised.is c.in_ok-relax.ensures in
          let (a, b, d) = stays es ii n c.loop-e.e log log' last last' c.loop-r.r h.0 h.1 i.2 in
          (a, b, d, λ q. absurd (false≢true (sym w.quiet-is ∙ q))))
    ]

pub returns-then-quiet : goal.returns-then-quiet
returns-then-quiet c =
    let es = c.args.edges.now in
    let i = c.loop-e.invariant in
    let e : c.loop-e.e ≡ length es = omega arith in
    (i.0, i.1, slack_tight es c.args.ii c.args.nodes c.loop-e.log.items c.loop-e.last.items c.requires.within i.0 (subst (λ z. AreSlack es c.args.ii z c.loop-e.log.items c.loop-e.last.items) e (i.3 c.if-quiet.true)))

pub loop-r-preserved : goal.loop-r-preserved
loop-r-preserved c =
    let i = c.loop-e.invariant in
    let e : c.loop-e.e ≡ length c.args.edges.now = omega arith in
    (i.0, i.1, next_round c.args.edges.now c.args.ii c.loop-r.r c.loop-e.log.items c.loop-e.last.items (subst (λ z. IsSettled c.args.edges.now c.args.ii c.loop-r.r z c.loop-e.log.items c.loop-e.last.items) e i.2))

pub returns : goal.returns
returns c =
    let es = c.args.edges.now in
    let i = c.loop-r.invariant in
    let e : c.loop-r.r ≡ c.args.nodes = omega arith in
    (i.0, i.1, tight es c.args.ii c.args.nodes c.loop-r.log.items c.loop-r.last.items c.requires.within i.0 i.1 (subst (λ z. IsSettled es c.args.ii z 0 c.loop-r.log.items c.loop-r.last.items) e i.2))

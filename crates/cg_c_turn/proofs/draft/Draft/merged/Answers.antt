use Rattle.std.proofs.Common.{◌≡◌, refl, ap, ◌∙◌}
use Rattle.cg_c_turn.specs.Draft.{Draft, draft_of}
use Rattle.cg_c_turn.specs.Stands.{word_or}
use Rattle.cg_c_turn.proofs.Carrying.{merges}
use Rattle.cg_c_turn.proofs.Prefixes.{runs_shorter, extends_on, begun_same}
use Rattle.cg_c_turn.proofs.draft.Draft.merged.Goals as goal

pub returns-clause-merges : goal.returns-clause-merges
returns-clause-merges c =
    let one = draft_of c.word_or_carried.new.self in
    let two = draft_of c.word_or_carried-2.new.self in
    let i : two.initial ≡ one.initial = ap (λ (d : Draft). d.initial) c.word_or_carried-2.ensures.same in
    merges _ c.args.condition c.args.number c.in_ok-chosen.chosen c.in_ok-other.other c.in_ok-v.v c.args.chosen c.args.other c.in_ok-v.ensures.means.within
    (λ x E r. c.in_ok-v.ensures.means.is x E r.fits)
    (λ x E r. c.in_ok-chosen.ensures.word x E (runs_shorter one _ (extends_on c.in_ok-other.ensures.kept c.in_ok-v.ensures.kept) i r) ∙ ap (λ z. word_or E z c.args.chosen) (begun_same x one two c.args.number i))
    (λ x E r. c.in_ok-other.ensures.word x E (runs_shorter two _ c.in_ok-v.ensures.kept refl r))

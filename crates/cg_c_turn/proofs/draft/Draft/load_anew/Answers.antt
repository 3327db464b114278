use Rattle.std.proofs.Common.{◌<◌, List, [], ◌∷◌, length, None, sym, ap, ◌∙◌, subst}
use Rattle.cg_c_values.specs.Listed.{listed}
use Rattle.cg_c_values.specs.declared.value.Value.{Value}
use Rattle.cg_c_values.specs.declared.value.Value.TheVariants.{Loaded}
use Rattle.cg_c_values.specs.Values.{Inserts}
use Rattle.cg_c_turn.specs.Draft.{Effect, Latest, Load, draft_of}
use Rattle.cg_c_turn.specs.Pieces.{Loads}
use Rattle.cg_c_turn.proofs.Loading.{latest_is, loads_anew}
use Rattle.cg_c_turn.proofs.draft.Draft.load_anew.Goals as goal

pub returns : goal.returns
returns c =
    let d = draft_of c.args.self.now in
    let new = Load c.args.self.now.guard c.args.array c.args.address c.in_ok-value.value c.args.place in
    let there : c.args.array < length d.latest = subst (λ n. c.args.array < n) (sym c.requires.formed.latest) c.requires.there in
    let version = ap (λ (z : Latest). Loaded c.args.array z.version c.args.self.now.guard c.args.address) (latest_is d.latest c.args.array c.index.result.now (record { version = 0; stored = None }) there c.index.ensures) in (
      new ∷ [],
      subst (λ (z : List Effect). Loads d (record d { values = listed c.insert.new.self; effects = z }) (new ∷ []) c.args.array c.args.address c.in_ok-value.value) (sym c.in_ok-push.ensures.items)
          (loads_anew d (listed c.insert.new.self) c.args.array c.args.address c.in_ok-value.value c.args.place c.requires.formed c.requires.within (subst (λ (z : Value). Inserts d.values (listed c.insert.new.self) z) version c.insert.ensures.kept) c.in_ok-value.ensures.place c.in_ok-value.ensures.within (c.in_ok-value.ensures.added ∙ version)),
    )

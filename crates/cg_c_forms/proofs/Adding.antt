-- Values that were added.
use Rattle.std.proofs.Common.{List, sym, subst}
use Rattle.cg_c_values.specs.declared.value.Value.{Value}
use Rattle.cg_c_values.specs.Values.{Inserts, Keeps}
use Rattle.cg_c_forms.specs.Remade.{Adds}

pub adds_keep : {IsKind : Value → Type 0} {a b : List Value} → Adds IsKind a b → Keeps a b
adds_keep e = record { longer = e.longer; kept = e.kept }

pub inserts_adds : {IsKind : Value → Type 0} {a b : List Value} {value : Value} → IsKind value → Inserts a b value → Adds IsKind a b
inserts_adds {IsKind} k e = record { longer = e.longer; kept = e.kept; kind = λ v from l. subst IsKind (sym (e.one v from l)) k }

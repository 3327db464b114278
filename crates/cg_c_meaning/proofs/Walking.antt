-- Walks through a function: the arrays stay, and the ports of inputs and outputs come one after another, none of them twice.
use Rattle.std.proofs.Common.{◌≡◌, ℕ, ◌<◌, nat_lt, ◌==◌, Bool, true, false, not, List, [], ◌∷◌, ◌++◌, length, Contains, Option, Some, None, Ok, Err, refl, ap, subst, ltb-true}
use Rattle.std.specs.Prelude.{bytes_eq, cond}
use Rattle.std.specs.Map.{lookup}
use Rattle.std.specs.List.{list_any}
use Rattle.std.proofs.lemmas.Bool.{and_parts, not-true}
use Rattle.cg_c_syntax.specs.Tree as tree
use Rattle.cg_c_syntax.specs.declared.statement.Signedness.{Signedness}
use Rattle.cg_c_syntax.specs.declared.expression.Named.{Named}
use Rattle.cg_c_check.specs.declared.program.Array.{Array}
use Rattle.cg_c_check.specs.declared.program.Constant.{Constant}
use Rattle.cg_c_check.specs.declared.fault.CheckFault.{CheckFault}
use Rattle.cg_c_check.specs.declared.fault.CheckFault.TheVariants.{BadPort}
use Rattle.cg_c_check.specs.Reserved.{is_reserved}
use Rattle.cg_c_check.specs.Faults as faults
use Rattle.cg_c_check.specs.Faults.{Checked, demand, found}
use Rattle.cg_c_check.specs.Names.{Names, declared, is_visible, meaning_of, known, array_named, writable_named}
use Rattle.cg_c_check.specs.Constants.{constant_of, place_of}
use Rattle.cg_c_check.specs.Program.{Expr, Target}
use Rattle.cg_c_check.specs.Expressions.{value_named}
use Rattle.cg_c_check.specs.Statements.{word_named}
use Rattle.cg_c_check.specs.Walk.{State, Walk, ◌>>=◌, ◌>>◌, give, onward, by_names, with_state, need, declares, with_names, declares_word, restored, scoped, with_input, with_output, input_port, output_port}
use Rattle.cg_c_check.specs.Ports.{ports, port_of, is_free_port}
use Rattle.cg_c_meaning.specs.Typed.{IsArray, table_in, AreApart, IsTypedExpr, IsTypedTarget, inputs, target_inputs}
use Rattle.cg_c_meaning.proofs.Apart.{one_more_apart, not_among}

-- ---- names

abbrev pub WhereSome : {A : Type 0} → Option A → (A → Type 0) → Type 0
WhereSome None P = Unit {0}
WhereSome (Some a) P = P a

abbrev pub WhereOk : {A : Type 0} → Checked A → (A → Type 0) → Type 0
WhereOk (Ok a) P = P a
WhereOk (Err fault) P = Unit {0}

-- a name alone refers to no array and has no inputs
abbrev pub IsPlain : Expr → Type 0
IsPlain e = ((arrays : List Array) (each : Bool) → IsTypedExpr arrays each e) × (inputs e ≡ [])

abbrev pub IsPlainTarget : Target → Type 0
IsPlainTarget t = ((arrays : List Array) (each : Bool) → IsTypedTarget arrays each t) × (target_inputs t ≡ [])

-- what a name stands for is there: an array has a number of the arrays, and is no table where it may be stored to
pub record IsKnown (arrays : List Array) (meaning : _) : Type 0 where
  pub array : (place indices : ℕ) → WhereOk (array_named place indices meaning) (λ shape. IsArray arrays shape.number)
  pub writable : (place indices : ℕ) → WhereOk (writable_named place indices meaning) (λ shape. IsArray arrays shape.number × (table_in arrays shape.number ≡ None))
  pub value : (place : ℕ) → WhereOk (value_named place meaning) IsPlain
  pub word : (place : ℕ) → WhereOk (word_named place meaning) IsPlainTarget

abbrev pub EachMeaning : {X : Type 0} → (X → Type 0) → List (List ℕ × X) → Type 0
EachMeaning P [] = Unit {0}
EachMeaning P (x ∷ names) = P x.1 × EachMeaning P names

passed : {X : Type 0} (P : X → Type 0) (b : Bool) (x : X) (o : Option X) → P x → WhereSome o P → WhereSome (cond b (Some x) o) P
passed P true x o h g = h
passed P false x o h g = g

looked_up : {X : Type 0} (P : X → Type 0) (test : List ℕ → Bool) (names : List (List ℕ × X)) → EachMeaning P names → WhereSome (lookup test names) P
looked_up P test [] h = tt
looked_up P test (x ∷ names) h = passed P (test x.0) x.1 (lookup test names) h.0 (looked_up P test names h.1)

where_found : {A : Type 0} (P : A → Type 0) (o : Option A) (fault : CheckFault) → WhereSome o P → WhereOk (found o fault) P
where_found P None fault h = tt
where_found P (Some a) fault h = h

pub if_demanded : {A : Type 0} (P : A → Type 0) (b : Bool) (fault : CheckFault) (r : Checked A) → (b ≡ true → WhereOk r P) → WhereOk (faults.◌>>◌ (demand b fault) r) P
if_demanded P true fault r h = h refl
if_demanded P false fault r h = tt

pub where_onward : {A B : Type 0} {P : A → Type 0} (Q : B → Type 0) (r : Checked A) (next : A → Checked B) → WhereOk r P → ((a : A) → P a → WhereOk (next a) Q) → WhereOk (faults.◌>>=◌ r next) Q
where_onward Q (Ok a) next h k = k a h
where_onward Q (Err fault) next h k = tt

-- ---- walks

-- the ports of inputs and outputs so far
pub record Ports : Type 0 where
  pub ins : List ℕ
  pub outs : List ℕ

-- a state with these arrays and ports
pub record IsAt (arrays : List Array) (now : Ports) (s : State) : Type 0 where
  pub arrays_are : s.arrays ≡ arrays
  pub names_are : EachMeaning (IsKnown arrays) s.names
  pub inputs_are : s.inputs ≡ now.ins
  pub outputs_are : s.outputs ≡ now.outs
  pub inputs_apart : AreApart s.inputs
  pub outputs_apart : AreApart s.outputs

abbrev pub Arrives : {A : Type 0} → List Array → (A → Type 0) → (A → Ports) → Checked (A × State) → Type 0
Arrives arrays P to (Ok r) = P r.0 × IsAt arrays (to r.0) r.1
Arrives arrays P to (Err fault) = Unit {0}

-- from such a state the walk gives what P says, with the ports behind it
pub record Typing {A : Type 0} (arrays : List Array) (from : Ports) (P : A → Type 0) (to : A → Ports) (walk : Walk A) : Type 0 where
  pub typed : (s : State) → IsAt arrays from s → Arrives arrays P to (walk s)

by_onward : {A B : Type 0} (arrays : List Array) (P : A → Type 0) (to : A → Ports) (Q : B → Type 0) (end : B → Ports) (r : Checked (A × State)) (next : A → Walk B)
    → Arrives arrays P to r → ((a : A) → P a → Typing arrays (to a) Q end (next a)) → Arrives arrays Q end (onward next r)
by_onward arrays P to Q end (Ok r) next h k = (k r.0 h.0).typed r.1 h.1
by_onward arrays P to Q end (Err fault) next h k = tt

pub bind : {A B : Type 0} {arrays : List Array} {from : Ports} {P : A → Type 0} {to : A → Ports} {Q : B → Type 0} {end : B → Ports} {w : Walk A} {next : A → Walk B}
    → Typing arrays from P to w → ((a : A) → P a → Typing arrays (to a) Q end (next a)) → Typing arrays from Q end (w >>= next)
bind {arrays = arrays} {P = P} {to = to} {Q = Q} {end = end} {w = w} {next = next} h k = record { typed = λ s at. by_onward arrays P to Q end (w s) next (h.typed s at) k }

pub bind_rest : {A B : Type 0} {arrays : List Array} {from : Ports} {P : A → Type 0} {to : A → Ports} {Q : B → Type 0} {end : B → Ports} {w : Walk A} {next : Walk B}
    → Typing arrays from P to w → ((a : A) → P a → Typing arrays (to a) Q end next) → Typing arrays from Q end (w >> next)
bind_rest {arrays = arrays} {P = P} {to = to} {Q = Q} {end = end} {w = w} {next = next} h k = record { typed = λ s at. by_onward arrays P to Q end (w s) (λ _. next) (h.typed s at) k }

pub given : {A : Type 0} {arrays : List Array} {from : Ports} {P : A → Type 0} {to : A → Ports} (a : A) → from ≡ to a → P a → Typing arrays from P to (give a)
given {arrays = arrays} a is h = record { typed = λ s at. (h, subst (λ p. IsAt arrays p s) is at) }

by_result : {A : Type 0} (arrays : List Array) (from : Ports) (P : A → Type 0) (to : A → Ports) (s : State) (r : Checked A) → IsAt arrays from s → WhereOk r (λ a. P a × (from ≡ to a)) → Arrives arrays P to (with_state s r)
by_result arrays from P to s (Ok a) at h = (h.0, subst (λ p. IsAt arrays p s) h.1 at)
by_result arrays from P to s (Err fault) at h = tt

pub named : {A : Type 0} {arrays : List Array} {from : Ports} {P : A → Type 0} {to : A → Ports} (step : Names → Checked A) → ((names : Names) → EachMeaning (IsKnown arrays) names → WhereOk (step names) (λ a. P a × (from ≡ to a))) → Typing arrays from P to (by_names step)
named {arrays = arrays} {from = from} {P = P} {to = to} step h = record { typed = λ s at. by_result arrays from P to s (step s.names) at (h s.names at.names_are) }

at_one : {A : Type 0} (from : Ports) (P : A → Type 0) (r : Checked A) → WhereOk r P → WhereOk r (λ a. P a × (from ≡ from))
at_one from P (Ok a) h = (h, refl)
at_one from P (Err fault) h = tt

pub named_one : {A : Type 0} {arrays : List Array} {from : Ports} {P : A → Type 0} (step : Names → Checked A) → ((names : Names) → EachMeaning (IsKnown arrays) names → WhereOk (step names) P) → Typing arrays from P (λ _. from) (by_names step)
named_one {from = from} {P = P} step h = named step (λ names g. at_one from P (step names) (h names g))

pub anything : {A : Type 0} (r : Checked A) → WhereOk r (λ a. Unit {0})
anything (Ok a) = tt
anything (Err fault) = tt

-- a step of which nothing is to be known
pub stepped : {A : Type 0} {arrays : List Array} {from : Ports} (step : Names → Checked A) → Typing arrays from (λ a. Unit {0}) (λ _. from) (by_names step)
stepped step = named_one step (λ names _. anything (step names))

pub knows : {arrays : List Array} {from : Ports} (name : Named) → Typing arrays from (IsKnown arrays) (λ _. from) (by_names (λ names. known names name))
knows {arrays = arrays} name =
    named_one (λ names. known names name) (λ names h. where_found (IsKnown arrays) (meaning_of names name.name) _ (looked_up (IsKnown arrays) (bytes_eq name.name) names h))

by_rule : (arrays : List Array) (from : Ports) (s : State) (b : Bool) (fault : CheckFault) → IsAt arrays from s → Arrives arrays (λ (_ : Unit {0}). b ≡ true) (λ _. from) (with_state s (demand b fault))
by_rule arrays from s true fault at = (refl, at)
by_rule arrays from s false fault at = tt

pub needed : {arrays : List Array} {from : Ports} (holds : Bool) (fault : CheckFault) → Typing arrays from (λ (_ : Unit {0}). holds ≡ true) (λ _. from) (need holds fault)
needed {arrays = arrays} {from = from} holds fault = record { typed = λ s at. by_rule arrays from s holds fault at }

-- ---- declarations

again : (arrays : List Array) (from : Ports) (s : State) (names : Names) (words : List Signedness) → EachMeaning (IsKnown arrays) names → IsAt arrays from s → IsAt arrays from (record s { names = names; words = words })
again arrays from s names words h at =
    record { arrays_are = at.arrays_are; names_are = h; inputs_are = at.inputs_are; outputs_are = at.outputs_are; inputs_apart = at.inputs_apart; outputs_apart = at.outputs_apart }

by_rules : (arrays : List Array) (from : Ports) (s : State) (a b : Bool) (f g : CheckFault) (x : List ℕ × _) → IsKnown arrays x.1 → IsAt arrays from s
    → Arrives arrays (λ (_ : Unit {0}). Unit {0}) (λ _. from) (with_names s (faults.◌>>◌ (demand a f) (faults.◌>>◌ (demand b g) (Ok (x ∷ s.names)))))
by_rules arrays from s true true f g x h at = (tt, again arrays from s (x ∷ s.names) s.words (h, at.names_are) at)
by_rules arrays from s true false f g x h at = tt
by_rules arrays from s false b f g x h at = tt

pub declaring : {arrays : List Array} {from : Ports} (name : Named) (meaning : _) → IsKnown arrays meaning → Typing arrays from (λ (_ : Unit {0}). Unit {0}) (λ _. from) (declares name meaning)
unfolding declared
declaring {arrays = arrays} {from = from} name meaning h =
    record { typed = λ s at. by_rules arrays from s (not (is_reserved name.name)) (not (is_visible s.names name.name)) _ _ (name.name, meaning) h at }

declared_with : {arrays : List Array} {from : Ports} (name : Named) (meaning : _) (number : ℕ) (s : State) → IsAt arrays from s → IsKnown arrays meaning
    → Arrives arrays (λ (_ : ℕ). Unit {0}) (λ _. from) ((declares name meaning >> give number) s)
declared_with {arrays = arrays} {from = from} name meaning number s at h =
    let walk : Typing arrays from (λ (_ : ℕ). Unit {0}) (λ _. from) (declares name meaning >> give number) = bind_rest (declaring name meaning h) (λ _ _. given number refl tt) in
    walk.typed s at

pub declaring_word : {arrays : List Array} {from : Ports} (name : Named) (signedness : Signedness) → Typing arrays from (λ (_ : ℕ). Unit {0}) (λ _. from) (declares_word name signedness)
unfolding IsTypedExpr inputs
declaring_word {arrays = arrays} {from = from} name signedness = record {
  typed = λ s at.
      declared_with name _ (length s.words) (record s { words = s.words ++ signedness ∷ [] }) (again arrays from s s.names (s.words ++ signedness ∷ []) at.names_are at)
      (record { array = λ place indices. tt; writable = λ place indices. tt; value = λ place. (λ arrays each. tt, refl); word = λ place. (λ arrays each. tt, refl) });
}

by_restored : {A : Type 0} (arrays : List Array) (from : Ports) (P : A → Type 0) (to : A → Ports) (names : Names) (r : Checked (A × State)) → EachMeaning (IsKnown arrays) names → Arrives arrays P to r → Arrives arrays P to (restored names r)
by_restored arrays from P to names (Ok r) h at = (at.0, again arrays (to r.0) r.1 names r.1.words h at.1)
by_restored arrays from P to names (Err fault) h at = tt

pub within : {A : Type 0} {arrays : List Array} {from : Ports} {P : A → Type 0} {to : A → Ports} {w : Walk A} → Typing arrays from P to w → Typing arrays from P to (scoped w)
within {arrays = arrays} {from = from} {P = P} {to = to} {w = w} h = record { typed = λ s at. by_restored arrays from P to s.names (w s) at.names_are (h.typed s at) }

-- ---- ports

abbrev pub IsFree : List ℕ → ℕ → Type 0
IsFree taken port = (port < ports) × (¬ Contains taken port)

free_port : (taken : List ℕ) (c : Constant) (fault : CheckFault) → WhereOk (faults.◌>>◌ (demand (is_free_port taken c.word) fault) (Ok c.word)) (IsFree taken)
free_port taken c fault =
    if_demanded (IsFree taken) (is_free_port taken c.word) fault (Ok c.word) (λ h.
    let parts = and_parts (nat_lt c.word ports) (not (list_any (λ other. other == c.word) taken)) h in
    (ltb-true c.word ports parts.0, not_among taken c.word (not-true (list_any (λ other. other == c.word) taken) parts.1)))

constant_port : (taken : List ℕ) (r : Checked Constant) (fault : CheckFault) → WhereOk (faults.◌>>=◌ r (λ (c : Constant). faults.◌>>◌ (demand (is_free_port taken c.word) fault) (Ok c.word))) (IsFree taken)
constant_port taken (Ok c) fault = free_port taken c fault
constant_port taken (Err f) fault = tt

port_is : (taken : List ℕ) (names : Names) (e : tree.Expr) → WhereOk (port_of taken names e) (IsFree taken)
unfolding port_of
port_is taken names e = constant_port taken (constant_of names e) (BadPort (place_of e))

abbrev pub with_in : Ports → ℕ → Ports
with_in from port = record { ins = from.ins ++ port ∷ []; outs = from.outs }

abbrev pub with_out : Ports → ℕ → Ports
with_out from port = record { ins = from.ins; outs = from.outs ++ port ∷ [] }

by_input : (arrays : List Array) (from : Ports) (s : State) (r : Checked ℕ) → IsAt arrays from s → WhereOk r (IsFree s.inputs) → Arrives arrays (λ port. port < ports) (with_in from) (with_input s r)
by_input arrays from s (Ok port) at h = (
  h.0,
  record {
    arrays_are = at.arrays_are;
    names_are = at.names_are;
    inputs_are = ap (λ ns. ns ++ port ∷ []) at.inputs_are;
    outputs_are = at.outputs_are;
    inputs_apart = one_more_apart s.inputs port at.inputs_apart h.1;
    outputs_apart = at.outputs_apart;
  },
)
by_input arrays from s (Err fault) at h = tt

pub at_input : {arrays : List Array} {from : Ports} (e : tree.Expr) → Typing arrays from (λ port. port < ports) (with_in from) (input_port e)
at_input {arrays = arrays} {from = from} e = record { typed = λ s at. by_input arrays from s (port_of s.inputs s.names e) at (port_is s.inputs s.names e) }

by_output : (arrays : List Array) (from : Ports) (s : State) (r : Checked ℕ) → IsAt arrays from s → WhereOk r (IsFree s.outputs) → Arrives arrays (λ port. port < ports) (with_out from) (with_output s r)
by_output arrays from s (Ok port) at h = (
  h.0,
  record {
    arrays_are = at.arrays_are;
    names_are = at.names_are;
    inputs_are = at.inputs_are;
    outputs_are = ap (λ ns. ns ++ port ∷ []) at.outputs_are;
    inputs_apart = at.inputs_apart;
    outputs_apart = one_more_apart s.outputs port at.outputs_apart h.1;
  },
)
by_output arrays from s (Err fault) at h = tt

pub at_output : {arrays : List Array} {from : Ports} (e : tree.Expr) → Typing arrays from (λ port. port < ports) (with_out from) (output_port e)
at_output {arrays = arrays} {from = from} e = record { typed = λ s at. by_output arrays from s (port_of s.outputs s.names e) at (port_is s.outputs s.names e) }

-- Walks through declarations before the function: arrays come one after another, and names of arrays have their numbers.
use Rattle.std.proofs.Common.{◌≡◌, ℕ, suc, ◌+◌, ◌==◌, Bool, true, false, not, List, [], ◌∷◌, ◌++◌, length, Option, Some, None, Ok, Err, refl, sym, ◌∙◌, subst, arith}
use Rattle.std.proofs.lemmas.Bool.{not-true}
use Rattle.cg_c_syntax.specs.Tree as tree
use Rattle.cg_c_syntax.specs.declared.statement.Signedness.{Signedness}
use Rattle.cg_c_syntax.specs.declared.expression.Named.{Named}
use Rattle.cg_c_check.specs.declared.program.Array.{Array}
use Rattle.cg_c_check.specs.declared.fault.CheckFault.{CheckFault}
use Rattle.cg_c_check.specs.declared.fault.CheckFault.TheVariants.{BadNumber}
use Rattle.cg_c_check.specs.Reserved.{is_reserved}
use Rattle.cg_c_check.specs.Rules.{fits_enumerator}
use Rattle.cg_c_check.specs.Faults as faults
use Rattle.cg_c_check.specs.Faults.{Checked, demand}
use Rattle.cg_c_check.specs.Names.{Names, declared, is_visible, array_named, writable_named}
use Rattle.cg_c_check.specs.Constants.{constant_of, count}
use Rattle.cg_c_check.specs.Arrays.{size_of, end_of, dimensions_of, table_of}
use Rattle.cg_c_check.specs.Walk.{State, Walk, ◌>>=◌, ◌>>◌, give, onward, by_names, with_state, need, declares, with_names}
use Rattle.cg_c_check.specs.Check.{define, enumerator, enumerators, dimensioned, placed, array, arrays, table, global, globals}
use Rattle.cg_c_meaning.specs.Typed.{IsTypedExpr, inputs, HasTableWords}
use Rattle.cg_c_meaning.proofs.Walking.{WhereOk, IsKnown, EachMeaning, if_demanded}
use Rattle.cg_c_meaning.proofs.Shaped.{IsDeep, HasDimensions, HasRows, HaveDimensions, IsShaped, AreShaped}
use Rattle.cg_c_meaning.proofs.Arranged.{AreDimensions, dimensions_are, table_is, AreArrangedTo, one_more_arranged, is_last, still_array, table_of_last, still_table}

-- ---- walks

abbrev pub Reaches : {A : Type 0} → Checked (A × State) → (A → State → Type 0) → Type 0
Reaches (Ok r) post = post r.0 r.1
Reaches (Err fault) post = Unit {0}

-- from states of which `pre` holds the walk gives values and states of which `post` does
pub record Leads {A : Type 0} (pre : State → Type 0) (post : A → State → Type 0) (walk : Walk A) : Type 0 where
  pub leads : (s : State) → pre s → Reaches (walk s) post

by_onward : {A B : Type 0} (mid : A → State → Type 0) (post : B → State → Type 0) (r : Checked (A × State)) (next : A → Walk B) → Reaches r mid → ((a : A) → Leads (mid a) post (next a)) → Reaches (onward next r) post
by_onward mid post (Ok r) next h k = (k r.0).leads r.1 h
by_onward mid post (Err fault) next h k = tt

pub chain : {A B : Type 0} {pre : State → Type 0} {mid : A → State → Type 0} {post : B → State → Type 0} {w : Walk A} {next : A → Walk B}
    → Leads pre mid w → ((a : A) → Leads (mid a) post (next a)) → Leads pre post (w >>= next)
chain {mid = mid} {post = post} {w = w} {next = next} h k = record { leads = λ s p. by_onward mid post (w s) next (h.leads s p) k }

pub chain_rest : {A B : Type 0} {pre : State → Type 0} {mid : A → State → Type 0} {post : B → State → Type 0} {w : Walk A} {next : Walk B}
    → Leads pre mid w → ((a : A) → Leads (mid a) post next) → Leads pre post (w >> next)
chain_rest {mid = mid} {post = post} {w = w} {next = next} h k = record { leads = λ s p. by_onward mid post (w s) (λ _. next) (h.leads s p) k }

nothing_more : {pre : State → Type 0} → Leads pre (λ (_ : Unit {0}). pre) (give tt)
nothing_more = record { leads = λ s p. p }

by_result : {A : Type 0} (P : A → Type 0) (pre : State → Type 0) (s : State) (r : Checked A) → pre s → WhereOk r P → Reaches (with_state s r) (λ a t. P a × pre t)
by_result P pre s (Ok a) p h = (h, p)
by_result P pre s (Err fault) p h = tt

-- a step by the names
stepped : {A : Type 0} {pre : State → Type 0} (P : A → Type 0) (step : Names → Checked A) → ((names : Names) → WhereOk (step names) P) → Leads pre (λ a s. P a × pre s) (by_names step)
stepped {pre = pre} P step h = record { leads = λ s p. by_result P pre s (step s.names) p (h s.names) }

-- ---- states

pub record IsArranging (s : State) : Type 0 where
  pub names_are : EachMeaning (IsKnown s.arrays) s.names
  pub arranged : AreArrangedTo 0 s.arrays s.free
  pub inputs_are : s.inputs ≡ []
  pub outputs_are : s.outputs ≡ []

by_rules : (s : State) (a b : Bool) (f g : CheckFault) (x : List ℕ × _) → IsKnown s.arrays x.1 → IsArranging s
    → Reaches (with_names s (faults.◌>>◌ (demand a f) (faults.◌>>◌ (demand b g) (Ok (x ∷ s.names))))) (λ (_ : Unit {0}). IsArranging)
by_rules s true true f g x h at = record { names_are = (h, at.names_are); arranged = at.arranged; inputs_are = at.inputs_are; outputs_are = at.outputs_are }
by_rules s true false f g x h at = tt
by_rules s false b f g x h at = tt

pub declaring : (name : Named) (meaning : _) → ((among : List Array) → IsKnown among meaning) → Leads IsArranging (λ (_ : Unit {0}). IsArranging) (declares name meaning)
unfolding declared
declaring name meaning h = record { leads = λ s at. by_rules s (not (is_reserved name.name)) (not (is_visible s.names name.name)) _ _ (name.name, meaning) (h s.arrays) at }

-- ---- constants

by_rule : (s : State) (b : Bool) (fault : CheckFault) → IsArranging s → Reaches (with_state s (demand b fault)) (λ (_ : Unit {0}). IsArranging)
by_rule s true fault at = at
by_rule s false fault at = tt

needed : (holds : Bool) (fault : CheckFault) → Leads IsArranging (λ (_ : Unit {0}). IsArranging) (need holds fault)
needed holds fault = record { leads = λ s at. by_rule s holds fault at }

unmoved : {A : Type 0} (s : State) (r : Checked A) → IsArranging s → Reaches (with_state s r) (λ _. IsArranging)
unmoved s (Ok a) at = at
unmoved s (Err fault) at = tt

looking : {A : Type 0} (step : Names → Checked A) → Leads IsArranging (λ (_ : A). IsArranging) (by_names step)
looking step = record { leads = λ s at. unmoved s (step s.names) at }

defines : (c : tree.Constant) → Leads IsArranging (λ (_ : Unit {0}). IsArranging) (define c)
unfolding IsTypedExpr inputs
defines c =
    chain (looking (λ names. constant_of names c.value)) (λ value.
    declaring c.name _ (λ among. record { array = λ p i. tt; writable = λ p i. tt; value = λ p. (λ arrays each. tt, refl); word = λ p. tt }))

enumerates : (c : tree.Constant) → Leads IsArranging (λ (_ : Unit {0}). IsArranging) (enumerator c)
unfolding IsTypedExpr inputs
enumerates c =
    chain (looking (λ names. constant_of names c.value)) (λ value.
    chain_rest (needed (fits_enumerator value) (BadNumber c.name.place)) (λ _.
    declaring c.name _ (λ among. record { array = λ p i. tt; writable = λ p i. tt; value = λ p. (λ arrays each. tt, refl); word = λ p. tt })))

enumerate : (cs : List tree.Constant) → Leads IsArranging (λ (_ : Unit {0}). IsArranging) (enumerators cs)
unfolding enumerators
enumerate [] = nothing_more
enumerate (c ∷ cs) = chain_rest (enumerates c) (λ _. enumerate cs)

-- ---- arrays

where_still : {A : Type 0} {P Q : A → Type 0} (r : Checked A) → WhereOk r P → ((a : A) → P a → Q a) → WhereOk r Q
where_still (Ok a) h k = k a h
where_still (Err fault) h k = tt

each_still : {X : Type 0} {P Q : X → Type 0} (names : List (List ℕ × X)) → EachMeaning P names → ((x : X) → P x → Q x) → EachMeaning Q names
each_still [] h k = tt
each_still (x ∷ names) h k = (k x.1 h.0, each_still names h.1 k)

-- what is known of names stays so with another array
known_still : (among : List Array) (a : Array) (meaning : _) → IsKnown among meaning → IsKnown (among ++ a ∷ []) meaning
known_still among a meaning h = record {
  array = λ p i. where_still (array_named p i meaning) (h.array p i) (λ shape g. still_array among a shape.number g);
  writable = λ p i. where_still (writable_named p i meaning) (h.writable p i) (λ shape g. (still_array among a shape.number g.0, still_table among a shape.number g.0 ∙ g.1));
  value = h.value;
  word = h.word;
}

writable_then : {S : Type 0} (P : S → Type 0) (is_table : S → Bool) (shape : S) (b : Bool) (fault : CheckFault) → (not (is_table shape) ≡ true → P shape)
    → WhereOk (faults.◌>>=◌ (faults.◌>>◌ (demand b fault) (Ok shape)) (λ shape. faults.◌>>◌ (demand (not (is_table shape)) fault) (Ok shape))) P
writable_then P is_table shape true fault h = if_demanded P (not (is_table shape)) fault (Ok shape) h
writable_then P is_table shape false fault h = tt

-- the name of the next array stands before the array does
pub record IsNaming (table : Bool) (dimensions : List ℕ) (n : ℕ) (s : State) : Type 0 where
  pub names_are : (a : Array) → (table ≡ false → a.table ≡ None) → EachMeaning (IsKnown (s.arrays ++ a ∷ [])) s.names
  pub arranged : AreArrangedTo 0 s.arrays s.free
  pub inputs_are : s.inputs ≡ []
  pub outputs_are : s.outputs ≡ []
  pub are : AreDimensions s.free 1 n dimensions

rules_then : {A : Type 0} (s : State) (a b : Bool) (f g : CheckFault) (x : List ℕ × _) (given_then : A) (post : A → State → Type 0) → post given_then (record s { names = x ∷ s.names })
    → Reaches (onward (λ _. give given_then) (with_names s (faults.◌>>◌ (demand a f) (faults.◌>>◌ (demand b g) (Ok (x ∷ s.names)))))) post
rules_then s true true f g x v post h = h
rules_then s true false f g x v post h = tt
rules_then s false b f g x v post h = tt

declared_then : {A : Type 0} (s : State) (name : Named) (meaning : _) (v : A) (post : A → State → Type 0) → post v (record s { names = (name.name, meaning) ∷ s.names }) → Reaches ((declares name meaning >> give v) s) post
unfolding declared
declared_then s name meaning v post h = rules_then s (not (is_reserved name.name)) (not (is_visible s.names name.name)) _ _ (name.name, meaning) v post h

result_then : {A B : Type 0} (P : A → Type 0) (s : State) (r : Checked A) (next : A → Walk B) (post : B → State → Type 0) → WhereOk r P → ((a : A) → P a → Reaches (next a s) post) → Reaches (onward next (with_state s r)) post
result_then P s (Ok a) next post h k = k a h
result_then P s (Err fault) next post h k = tt

-- the number of the dimensions behind the first
abbrev pub others : tree.Exprs → ℕ
others tree.NoExprs = 0
others (tree.MoreExprs e es) = count es

dimensions_is : (names : Names) (start : ℕ) (es : tree.Exprs) → HasDimensions es → WhereOk (dimensions_of names start 1 es) (AreDimensions start 1 (suc (others es)))
dimensions_is names start tree.NoExprs h = absurd h
dimensions_is names start (tree.MoreExprs e es) h = dimensions_are names start 1 e es

dimension : (table : Bool) (signedness : Signedness) (a : tree.Array) → HasDimensions a.dimensions → Leads IsArranging (λ ds. IsNaming table ds (suc (others a.dimensions))) (dimensioned table signedness a)
dimension table signedness a h = record {
  leads = λ s at.
      result_then (AreDimensions s.free 1 (suc (others a.dimensions))) s (dimensions_of s.names s.free 1 a.dimensions) _ (λ ds. IsNaming table ds (suc (others a.dimensions))) (dimensions_is s.names s.free a.dimensions h) (λ ds are.
      declared_then s a.name _ ds (λ ds. IsNaming table ds (suc (others a.dimensions))) (record {
        names_are = λ b same. (
          record {
            array = λ p i. if_demanded _ (length ds == i) _ _ (λ _. is_last s.arrays b);
            writable = λ p i. writable_then _ _ _ (length ds == i) _ (λ g. (is_last s.arrays b, table_of_last s.arrays b ∙ same (not-true table g)));
            value = λ p. tt;
            word = λ p. tt;
          },
          each_still s.names at.names_are (λ meaning. known_still s.arrays b meaning),
        );
        arranged = at.arranged;
        inputs_are = at.inputs_are;
        outputs_are = at.outputs_are;
        are = are;
      }));
}

end_is : (start n : ℕ) (ds : List ℕ) → length ds ≡ suc n → end_of start ds ≡ start + size_of ds
end_is start n [] h = absurd (omega arith)
end_is start n (d ∷ ds) h = refl

words_in : (name : List ℕ) (ds : List ℕ) (words : Option (List ℕ)) (start : ℕ) → HasTableWords (record { name = name; dimensions = ds; start = 0; table = words }) words
    → HasTableWords (record { name = name; dimensions = ds; start = start; table = words }) words
words_in name ds None start h = tt
words_in name ds (Some words) start h = h

places : (a : tree.Array) (ds : List ℕ) (words : Option (List ℕ)) (is_table : Bool) (n : ℕ) → (is_table ≡ false → words ≡ None) → HasTableWords (record { name = a.name.name; dimensions = ds; start = 0; table = words }) words
    → Leads (IsNaming is_table ds (suc n)) (λ (_ : Unit {0}). IsArranging) (placed a ds words)
places a ds words is_table n none has = record {
  leads = λ s at.
      let new : Array = record { name = a.name.name; dimensions = ds; start = s.free; table = words } in
      record {
        names_are = at.names_are new none;
        arranged =
            subst (λ e. AreArrangedTo 0 (s.arrays ++ new ∷ []) e) (sym (end_is s.free n ds at.are.0))
            (one_more_arranged 0 s.free s.arrays new at.arranged refl at.are.1 (words_in a.name.name ds words s.free has) (omega (arith, at.are.2)));
        inputs_are = at.inputs_are;
        outputs_are = at.outputs_are;
      };
}

array_placed : (signedness : Signedness) (a : tree.Array) → HasDimensions a.dimensions → Leads IsArranging (λ (_ : Unit {0}). IsArranging) (array signedness a)
array_placed signedness a h = chain (dimension false signedness a h) (λ ds. places a ds None false (others a.dimensions) (λ _. refl) tt)

arrays_placed : (signedness : Signedness) (declared_ones : List tree.Array) → HaveDimensions declared_ones → Leads IsArranging (λ (_ : Unit {0}). IsArranging) (arrays signedness declared_ones)
unfolding arrays
arrays_placed signedness [] h = nothing_more
arrays_placed signedness (a ∷ further) h = chain_rest (array_placed signedness a h.0) (λ _. arrays_placed signedness further h.1)

-- ---- tables

knowing : {A : Type 0} {P : Type 0} {pre : State → Type 0} {post : A → State → Type 0} {w : Walk A} → (P → Leads pre post w) → Leads (λ s. P × pre s) post w
knowing h = record { leads = λ s p. (h p.0).leads s p.1 }

table_words : (is_table : Bool) (n : ℕ) (rows : tree.Rows) (ds : List ℕ) → IsDeep rows n → Leads (IsNaming is_table ds (suc n)) (λ words s. (length words ≡ size_of ds) × IsNaming is_table ds (suc n) s) (by_names (λ names. table_of names ds rows))
table_words is_table n rows ds deep =
    record { leads = λ s at. by_result (λ words. length words ≡ size_of ds) (IsNaming is_table ds (suc n)) s (table_of s.names ds rows) at (table_is s.names ds rows n deep at.are.0) }

rows_are_deep : (es : tree.Exprs) (rows : tree.Rows) → HasRows es rows → HasDimensions es × IsDeep rows (others es)
rows_are_deep tree.NoExprs rows h = absurd h
rows_are_deep (tree.MoreExprs e es) rows h = (tt, h)

no_less : (words : Option (List ℕ)) → true ≡ false → words ≡ None
no_less words h = absurd cc

table_placed : (t : tree.Table) → HasRows t.array.dimensions t.rows → Leads IsArranging (λ (_ : Unit {0}). IsArranging) (table t)
table_placed t h =
    let parts = rows_are_deep t.array.dimensions t.rows h in
    chain (dimension true t.signedness t.array parts.0) (λ ds.
    chain (table_words true (others t.array.dimensions) t.rows ds parts.1) (λ words.
    knowing (λ long. places t.array ds (Some words) true (others t.array.dimensions) (no_less (Some words)) long)))

-- ---- all declarations

global_placed : (g : tree.Global) → IsShaped g → Leads IsArranging (λ (_ : Unit {0}). IsArranging) (global g)
global_placed (tree.Define c) h = defines c
global_placed (tree.Enumeration cs) h = enumerate cs
global_placed (tree.Arrays signedness declared_ones) h = arrays_placed signedness declared_ones h
global_placed (tree.Constants t) h = table_placed t h

pub globals_placed : (gs : List tree.Global) → AreShaped gs → Leads IsArranging (λ (_ : Unit {0}). IsArranging) (globals gs)
unfolding globals
globals_placed [] h = nothing_more
globals_placed (g ∷ gs) h = chain_rest (global_placed g h.0) (λ _. globals_placed gs h.1)

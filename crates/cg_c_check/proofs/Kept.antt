-- What was visible stays visible: a walk adds names, and drops none.
use Rattle.std.proofs.Common.{◌≡◌, ℕ, suc, ◌*◌, ◌-◌, Bool, true, false, not, nat_lt, List, [], ◌∷◌, ◌++◌, length, drop, append_assoc, Ok, Err, refl, sym, ap, ◌∙◌, arith, length-append}
use Rattle.cg_c_syntax.specs.declared.statement.Signedness.{Signedness}
use Rattle.cg_c_syntax.specs.declared.expression.Named.{Named}
use Rattle.cg_c_syntax.specs.Tree as tree
use Rattle.cg_c_check.specs.declared.names.Meaning.TheVariants as meanings
use Rattle.cg_c_check.specs.declared.fault.CheckFault.TheVariants.{BadLoop}
use Rattle.cg_c_check.specs.Reserved.{is_reserved}
use Rattle.cg_c_check.specs.Faults as faults
use Rattle.cg_c_check.specs.Faults.{CheckFault, Checked, demand}
use Rattle.cg_c_check.specs.Names.{Names, Meaning, declared, is_visible}
use Rattle.cg_c_check.specs.Walk.{State, Walk, ◌>>=◌, ◌>>◌, give, onward, by_names, with_state, need, declares, with_names, declares_word, restored, scoped, with_input, with_output, input_port, output_port}
use Rattle.cg_c_check.specs.Ports.{port_of}
use Rattle.cg_c_check.specs.Expressions.{expr, exprs, accessed}
use Rattle.cg_c_check.specs.Statements.{target, assigned, declarations, stmt, stmts}
use Rattle.cg_c_check.specs.Check.{nest, looped}
use Rattle.cg_c_check.specs.Loops.{most_loops, Range, range_of}

-- ---- more names

pub record Extends (older newer : Names) : Type 0 where
  pub added : Names
  pub is : newer ≡ added ++ older

same : (N : Names) → Extends N N
same N = record { added = []; is = refl }

onto : (a b c : Names) → Extends a b → Extends b c → Extends a c
onto a b c h g = record { added = g.added ++ h.added; is = rw append_assoc (g.is ∙ ap (λ z. g.added ++ z) h.is) }

behind_added : (added older : Names) → drop (length added) (added ++ older) ≡ older
behind_added [] older = refl
behind_added (x ∷ added) older = behind_added added older

older_is : (older newer : Names) → Extends older newer → older ≡ drop (length newer - length older) newer
older_is older newer h =
    let n : length newer - length older ≡ length h.added = omega (arith, ap length h.is, length-append h.added older) in
    sym (behind_added h.added older) ∙ ap (λ z. drop (length h.added) z) (sym h.is) ∙ ap (λ n. drop n newer) (sym n)

-- ---- walks

abbrev pub Grown : {A : Type 0} → Names → Checked (A × State) → Type 0
Grown N (Ok r) = Extends N r.1.names
Grown N (Err fault) = Unit {0}

pub record Extending {A : Type 0} (walk : Walk A) : Type 0 where
  pub grown : (s : State) → Grown s.names (walk s)

further : {A : Type 0} (N M : Names) (r : Checked (A × State)) → Extends N M → Grown M r → Grown N r
further N M (Ok r) h g = onto N M r.1.names h g
further N M (Err fault) h g = tt

by_onward : {A B : Type 0} (N : Names) (r : Checked (A × State)) (next : A → Walk B) → Grown N r → ((a : A) → Extending (next a)) → Grown N (onward next r)
by_onward N (Ok r) next h k = further N r.1.names (next r.0 r.1) h ((k r.0).grown r.1)
by_onward N (Err fault) next h k = tt

bind : {A B : Type 0} {w : Walk A} {next : A → Walk B} → Extending w → ((a : A) → Extending (next a)) → Extending (w >>= next)
bind {w = w} {next = next} h k = record { grown = λ s. by_onward s.names (w s) next (h.grown s) k }

bind_rest : {A B : Type 0} {w : Walk A} {next : Walk B} → Extending w → Extending next → Extending (w >> next)
bind_rest {w = w} {next = next} h k = record { grown = λ s. by_onward s.names (w s) (λ _. next) (h.grown s) (λ _. k) }

given : {A : Type 0} (a : A) → Extending (give a)
given a = record { grown = λ s. same s.names }

by_state : {A : Type 0} (s : State) (r : Checked A) → Grown s.names (with_state s r)
by_state s (Ok a) = same s.names
by_state s (Err fault) = tt

named : {A : Type 0} (step : Names → Checked A) → Extending (by_names step)
named step = record { grown = λ s. by_state s (step s.names) }

needed : (holds : Bool) (fault : CheckFault) → Extending (need holds fault)
needed holds fault = record { grown = λ s. by_state s (demand holds fault) }

by_rules : (s : State) (a b : Bool) (f g : CheckFault) (x : List ℕ × Meaning) → Grown s.names (with_names s (faults.◌>>◌ (demand a f) (faults.◌>>◌ (demand b g) (Ok (x ∷ s.names)))))
by_rules s true true f g x = record { added = x ∷ []; is = refl }
by_rules s true false f g x = tt
by_rules s false b f g x = tt

declaring : (name : Named) (meaning : Meaning) → Extending (declares name meaning)
unfolding declared
declaring name meaning =
    record { grown = λ s. by_rules s (not (is_reserved name.name)) (not (is_visible s.names name.name)) _ _ (name.name, meaning) }

declaring_word : (name : Named) (signedness : Signedness) → Extending (declares_word name signedness)
declaring_word name signedness =
    record { grown = λ s. (bind_rest (declaring name (meanings.Word (length s.words) signedness)) (given (length s.words))).grown (record s { words = s.words ++ signedness ∷ [] }) }

by_restored : {A : Type 0} (N : Names) (r : Checked (A × State)) → Grown N (restored N r)
by_restored N (Ok r) = same N
by_restored N (Err fault) = tt

within : {A : Type 0} (w : Walk A) → Extending (scoped w)
within w = record { grown = λ s. by_restored s.names (w s) }

by_input : (s : State) (r : Checked ℕ) → Grown s.names (with_input s r)
by_input s (Ok port) = same s.names
by_input s (Err fault) = tt

at_input : (e : tree.Expr) → Extending (input_port e)
at_input e = record { grown = λ s. by_input s (port_of s.inputs s.names e) }

by_output : (s : State) (r : Checked ℕ) → Grown s.names (with_output s r)
by_output s (Ok port) = same s.names
by_output s (Err fault) = tt

at_output : (e : tree.Expr) → Extending (output_port e)
at_output e = record { grown = λ s. by_output s (port_of s.outputs s.names e) }

-- ---- expressions

mutual
  unfolding expr exprs accessed

  kept_expr : (each : Bool) (e : tree.Expr) → Extending (expr each e)
  kept_expr each (tree.Num n) = bind (named _) (λ c. given _)
  kept_expr each (tree.Access name indices) = bind (named _) (λ meaning. kept_accessed each name.place meaning indices)
  kept_expr each (tree.Signed sign place e) = bind (kept_expr each e) (λ a. given _)
  kept_expr each (tree.Converted to place e) = bind (kept_expr each e) (λ a. given _)
  kept_expr each (tree.Input place port) = bind (at_input port) (λ p. bind_rest (needed _ _) (given _))
  kept_expr each (tree.Picked pick place first second) = bind (kept_expr each first) (λ a. bind (kept_expr each second) (λ b. given _))
  kept_expr each (tree.Two op place left right) = bind (kept_expr each left) (λ a. bind (kept_expr _ right) (λ b. bind_rest (needed _ _) (given _)))
  kept_expr each (tree.Choice place condition chosen other) = bind (kept_expr each condition) (λ c. bind (kept_expr false chosen) (λ a. bind (kept_expr false other) (λ b. given _)))

  kept_exprs : (each : Bool) (es : tree.Exprs) → Extending (exprs each es)
  kept_exprs each tree.NoExprs = given _
  kept_exprs each (tree.MoreExprs e es) = bind (kept_expr each e) (λ a. bind (kept_exprs each es) (λ more. given _))

  kept_accessed : (each : Bool) (place : ℕ) (meaning : Meaning) (es : tree.Exprs) → Extending (accessed each place meaning es)
  kept_accessed each place meaning tree.NoExprs = named _
  kept_accessed each place meaning (tree.MoreExprs e es) = bind (named _) (λ shape. bind (kept_expr each e) (λ a. bind (kept_exprs each es) (λ more. given _)))

-- ---- statements

kept_assigned : (each : Bool) (place : ℕ) (meaning : Meaning) (es : tree.Exprs) → Extending (assigned each place meaning es)
kept_assigned each place meaning tree.NoExprs = named _
kept_assigned each place meaning (tree.MoreExprs e es) = bind (named _) (λ shape. bind (kept_expr each e) (λ a. bind (kept_exprs each es) (λ more. given _)))

kept_target : (each : Bool) (t : tree.Target) → Extending (target each t)
unfolding target
kept_target each t = bind (named _) (λ meaning. kept_assigned each t.name.place meaning t.indices)

kept_declarations : (each : Bool) (signedness : Signedness) (ws : List tree.Word) → Extending (declarations each signedness ws)
unfolding declarations
kept_declarations each signedness [] = given _
kept_declarations each signedness (w ∷ ws) = bind (kept_expr each w.value) (λ value. bind (declaring_word w.name signedness) (λ number. bind (kept_declarations each signedness ws) (λ more. given _)))

mutual
  unfolding stmt stmts

  kept_stmt : (each : Bool) (t : tree.Stmt) → Extending (stmt each t)
  kept_stmt each (tree.Words signedness words) = bind (kept_declarations each signedness words) (λ initials. given _)
  kept_stmt each (tree.Block body) = bind (within (stmts each body)) (λ inner. given _)
  kept_stmt each (tree.If condition chosen) = bind (kept_expr each condition) (λ c. bind (kept_stmt false chosen) (λ a. given _))
  kept_stmt each (tree.IfElse condition chosen other) = bind (kept_expr each condition) (λ c. bind (kept_stmt false chosen) (λ a. bind (kept_stmt false other) (λ b. given _)))
  kept_stmt each (tree.Output port value) = bind (at_output port) (λ p. bind (kept_expr each value) (λ a. given _))
  kept_stmt each (tree.Assign left op value) = bind (kept_target each left) (λ t. bind (kept_expr each value) (λ a. bind_rest (needed _ _) (given _)))

  kept_stmts : (each : Bool) (ts : tree.Stmts) → Extending (stmts each ts)
  kept_stmts each tree.NoStmts = given _
  kept_stmts each (tree.MoreStmts t ts) = bind (kept_stmt each t) (λ a. bind (kept_stmts each ts) (λ more. given _))

-- ---- loops

mutual
  unfolding nest looped

  kept_nest : (depth turns : ℕ) (n : tree.Nest) → Extending (nest depth turns n)
  kept_nest depth turns (tree.Bare body) = bind (kept_stmts true body) (λ a. given _)
  kept_nest depth turns (tree.Holds before inner after) = bind (kept_stmts false before) (λ a. bind (within (looped depth turns inner)) (λ w. bind (kept_stmts false after) (λ b. given _)))

  kept_looped : (depth turns : ℕ) (l : tree.Loop) → Extending (looped depth turns l)
  kept_looped depth turns (tree.For place head body) =
      bind_rest (needed (nat_lt depth most_loops) (BadLoop place)) (bind (named (λ names. range_of names turns place head)) (λ (range : Range). bind_rest (declaring head.counter (meanings.Counter depth)) (bind (kept_nest (suc depth) (turns * range.trips) body) (λ inner. given (range, inner)))))

-- ---- what was visible before

kept_at : {A : Type 0} (N : Names) (r : Checked (A × State)) (a : A) (s : State) → Grown N r → r ≡ Ok (a, s) → N ≡ drop (length s.names - length N) s.names
kept_at {A = A} N r a s h is = let g : Grown {A = A} N (Ok (a, s)) = rw is at h in older_is N s.names g

pub stmts_kept : (each : Bool) (ts : tree.Stmts) (s : State) (more : _) (s0 : State) → stmts each ts s ≡ Ok (more, s0) → s.names ≡ drop (length s0.names - length s.names) s0.names
stmts_kept each ts s more s0 h = kept_at s.names (stmts each ts s) more s0 ((kept_stmts each ts).grown s) h

pub looped_kept : (depth turns : ℕ) (l : tree.Loop) (s : State) (r : _) (s0 : State) → looped depth turns l s ≡ Ok (r, s0) → s.names ≡ drop (length s0.names - length s.names) s0.names
looped_kept depth turns l s r s0 h = kept_at s.names (looped depth turns l s) r s0 ((kept_looped depth turns l).grown s) h

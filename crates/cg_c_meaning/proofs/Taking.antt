-- An expression takes a word for each of its inputs and changes nothing else; a statement takes a word for each of its.
use Rattle.std.proofs.Common.{subst, ◌≡◌, ℕ, suc, ◌+◌, Bool, true, false, ◌&&◌, not, if◌then◌else◌, List, [], ◌∷◌, ◌++◌, Option, Some, None, refl, sym, ap, ap₂, ◌∙◌, arith, add-zero}
use Rattle.std.proofs.lemmas.Bool.Decides.{nat_tests}
use Rattle.std.proofs.lemmas.List.{append-nil}
use Rattle.cg_word.specs.Word.{one_if}
use Rattle.cg_c_syntax.specs.declared.expression.Binary.{Binary}
use Rattle.cg_c_syntax.specs.declared.expression.Binary.TheVariants.{OrElse, AndThen}
use Rattle.cg_c_check.specs.declared.program.Array.{Array}
use Rattle.cg_c_check.specs.Rules.{is_true, is_conditional, two_words}
use Rattle.cg_c_check.specs.Program.{Expr, Literal, Word, Counter, Element, Signed, Converted, Input, Picked, Two, Choice, Exprs, NoExprs, MoreExprs, Target, TheWord, TheElement, Initial, Stmt, Words, Block, If, IfElse, Output, Assign, Stmts, NoStmts, MoreStmts, signedness_of}
use Rattle.cg_c_meaning.specs.Meaning.{State, Context, Run, onward, ◌>>=◌, ◌>>◌, give, with_state, defined, is_settled, word_of, loaded, next_input, updated, value, values, set_word, stored, sent, changed, assign, declared, stmt, stmts}
use Rattle.cg_c_meaning.specs.Typed.{IsTypedExpr, IsTypedExprs, IsTypedTarget, AreTypedInitials, IsTypedStmt, AreTypedStmts, inputs, inputs_of, target_inputs, initial_inputs, stmt_inputs, stmts_inputs}
use Rattle.cg_c_meaning.specs.Taken.{times, Takes, TakesAlone, ExpressionsTake, IndicesTake, StatementsTake, BlocksTake}

-- ---- what stands under a condition has no inputs

both_none : (ps qs : List ℕ) → ps ≡ [] → qs ≡ [] → ps ++ qs ≡ []
both_none ps qs h g = ap₂ (λ (a b : List ℕ). a ++ b) h g

mutual
  unfolding IsTypedExpr inputs

  none_expr : (arrays : List Array) (e : Expr) → IsTypedExpr arrays false e → inputs e ≡ []
  none_expr arrays (Literal c) h = refl
  none_expr arrays (Word number s) h = refl
  none_expr arrays (Counter depth) h = refl
  none_expr arrays (Element array place s indices) h = none_exprs arrays indices h.1
  none_expr arrays (Signed sign s e) h = none_expr arrays e h
  none_expr arrays (Converted to e) h = none_expr arrays e h
  none_expr arrays (Input port) h = absurd cc
  none_expr arrays (Picked pick a b) h = both_none (inputs a) (inputs b) (none_expr arrays a h.0) (none_expr arrays b h.1)
  none_expr arrays (Two op reading a b) h = both_none (inputs a) (inputs b) (none_expr arrays a h.0) (none_expr arrays b h.1)
  none_expr arrays (Choice s c a b) h =
      both_none (inputs c ++ inputs a) (inputs b) (both_none (inputs c) (inputs a) (none_expr arrays c h.0) (none_expr arrays a h.1)) (none_expr arrays b h.2)

  none_exprs : (arrays : List Array) (es : Exprs) → IsTypedExprs arrays false es → inputs_of es ≡ []
  none_exprs arrays NoExprs h = refl
  none_exprs arrays (MoreExprs e es) h = both_none (inputs e) (inputs_of es) (none_expr arrays e h.0) (none_exprs arrays es h.1)

none_target : (arrays : List Array) (t : Target) → IsTypedTarget arrays false t → target_inputs t ≡ []
none_target arrays (TheWord number s) h = refl
none_target arrays (TheElement array place s indices) h = none_exprs arrays indices h.2

none_initials : (arrays : List Array) (is : List Initial) → AreTypedInitials arrays false is → initial_inputs is ≡ []
none_initials arrays [] h = refl
none_initials arrays (i ∷ is) h = both_none (inputs i.value) (initial_inputs is) (none_expr arrays i.value h.0) (none_initials arrays is h.1)

mutual
  unfolding IsTypedStmt stmt_inputs

  pub none_stmt : (arrays : List Array) (t : Stmt) → IsTypedStmt arrays false t → stmt_inputs t ≡ []
  none_stmt arrays (Words initials) h = none_initials arrays initials h
  none_stmt arrays (Block body) h = none_stmts arrays body h
  none_stmt arrays (If c a) h = both_none (inputs c) (stmt_inputs a) (none_expr arrays c h.0) (none_stmt arrays a h.1)
  none_stmt arrays (IfElse c a b) h =
      both_none (inputs c ++ stmt_inputs a) (stmt_inputs b) (both_none (inputs c) (stmt_inputs a) (none_expr arrays c h.0) (none_stmt arrays a h.1)) (none_stmt arrays b h.2)
  none_stmt arrays (Output port e) h = none_expr arrays e h.1
  none_stmt arrays (Assign target op e) h = both_none (target_inputs target) (inputs e) (none_target arrays target h.0) (none_expr arrays e h.1)

  pub none_stmts : (arrays : List Array) (ts : Stmts) → AreTypedStmts arrays false ts → stmts_inputs ts ≡ []
  none_stmts arrays NoStmts h = refl
  none_stmts arrays (MoreStmts t ts) h = both_none (stmt_inputs t) (stmts_inputs ts) (none_stmt arrays t h.0) (none_stmts arrays ts h.1)

-- ---- counts

times_both : (port : ℕ) (ps qs : List ℕ) → times port (ps ++ qs) ≡ times port ps + times port qs
times_both port [] qs = omega arith
times_both port (p ∷ ps) qs = omega (arith, times_both port ps qs)

then_takes : (a b c : State) (ps qs : List ℕ) → Takes a b ps → Takes b c qs → Takes a c (ps ++ qs)
then_takes a b c ps qs h g port = omega (arith, h port, g port, times_both port ps qs)

nothing_alone : (s : State) → TakesAlone s s []
nothing_alone s = record { words = λ number. refl; memory = refl; outputs = λ port. refl; taken = λ port. sym (add-zero (s.taken port)) }

then_alone : (a b c : State) (ps qs : List ℕ) → TakesAlone a b ps → TakesAlone b c qs → TakesAlone a c (ps ++ qs)
then_alone a b c ps qs h g =
    record { words = λ number. g.words number ∙ h.words number; memory = g.memory ∙ h.memory; outputs = λ port. g.outputs port ∙ h.outputs port; taken = then_takes a b c ps qs h.taken g.taken }

-- ---- runs that take words alone

abbrev pub Took : {A : Type 0} → State → List ℕ → Option (A × State) → Type 0
Took s ports None = Unit {0}
Took s ports (Some r) = TakesAlone s r.1 ports

record Taking {A : Type 0} (ports : List ℕ) (run : Run A) : Type 0 where
  took : (s : State) → Took s ports (run s)

further : {A : Type 0} (s t : State) (ps qs : List ℕ) (r : Option (A × State)) → TakesAlone s t ps → Took t qs r → Took s (ps ++ qs) r
further s t ps qs None h g = tt
further s t ps qs (Some r) h g = then_alone s t r.1 ps qs h g

by_onward : {A B : Type 0} (s : State) (ps qs : List ℕ) (r : Option (A × State)) (next : A → Run B) → Took s ps r → ((a : A) → Taking qs (next a)) → Took s (ps ++ qs) (onward next r)
by_onward s ps qs None next h k = tt
by_onward s ps qs (Some r) next h k = further s r.1 ps qs (next r.0 r.1) h ((k r.0).took r.1)

bind : {A B : Type 0} {ps qs : List ℕ} {w : Run A} {next : A → Run B} → Taking ps w → ((a : A) → Taking qs (next a)) → Taking (ps ++ qs) (w >>= next)
bind {ps = ps} {qs = qs} {w = w} {next = next} h k = record { took = λ s. by_onward s ps qs (w s) next (h.took s) k }

alike : {A : Type 0} {ps qs : List ℕ} {w : Run A} → ps ≡ qs → Taking ps w → Taking qs w
alike {w = w} e h = subst (λ z. Taking z w) e h

-- nothing is taken after it
last : {A B : Type 0} {ps : List ℕ} {w : Run A} {next : A → Run B} → Taking ps w → ((a : A) → Taking [] (next a)) → Taking ps (w >>= next)
last {ps = ps} h k = alike (append-nil ps) (bind h k)

given : {A : Type 0} (a : A) → Taking [] (give a)
given a = record { took = λ s. nothing_alone s }

by_option : {A : Type 0} (s : State) (o : Option A) → Took s [] (with_state s o)
by_option s None = tt
by_option s (Some a) = nothing_alone s

where_defined : {A : Type 0} (o : Option A) → Taking [] (defined o)
where_defined o = record { took = λ s. by_option s o }

read_word : (number : ℕ) → Taking [] (word_of number)
read_word number = record { took = λ s. nothing_alone s }

read_memory : (address : ℕ) → Taking [] (loaded address)
read_memory address = record { took = λ s. nothing_alone s }

one_more : (s : State) (port other : ℕ) → updated s.taken port (suc (s.taken port)) other ≡ s.taken other + times other (port ∷ [])
one_more s port other = grind (arith, nat_tests)

read_input : (x : Context) (port : ℕ) → Taking (port ∷ []) (next_input x port)
read_input x port = record { took = λ s. record { words = λ number. refl; memory = refl; outputs = λ port. refl; taken = one_more s port } }

if_true : {A : Type 0} {ps : List ℕ} {v w : Run A} (b : Bool) → Taking ps v → Taking ps w → Taking ps (if b then v else w)
if_true true h g = h
if_true false h g = g

-- ---- expressions

settles : (op : Binary) (left : ℕ) → is_conditional op ≡ false → is_settled op left ≡ false
settles OrElse left h = absurd cc
settles AndThen left h = absurd cc
settles _ left h = refl

none_right : (arrays : List Array) (each : Bool) (e : Expr) → IsTypedExpr arrays (each && false) e → inputs e ≡ []
none_right arrays true e h = none_expr arrays e h
none_right arrays false e h = none_expr arrays e h

-- where the right side may not be needed, it takes nothing
right_takes : (op : Binary) (reading : _) (each : Bool) (arrays : List Array) (x : Context) (b : Expr) (left : ℕ) → ((more : Bool) → IsTypedExpr arrays more b → Taking (inputs b) (value x b)) → (c : Bool) → is_conditional op ≡ c → IsTypedExpr arrays (each && not c) b
    → Taking (inputs b) (if is_settled op left then give (one_if (is_true left)) else (value x b >>= (λ w. give (two_words op reading left w))))
right_takes op reading each arrays x b left h true is typed =
    alike (sym (none_right arrays each b typed)) (if_true (is_settled op left) (given _) (alike (none_right arrays each b typed) (last (h _ typed) (λ w. given _))))
right_takes op reading each arrays x b left h false is typed =
    rw (settles op left is) (last (h _ typed) (λ w. given _))

mutual
  unfolding IsTypedExpr inputs value

  take_expr : (arrays : List Array) (each : Bool) (x : Context) (e : Expr) → IsTypedExpr arrays each e → Taking (inputs e) (value x e)
  take_expr arrays each x (Literal c) h = given _
  take_expr arrays each x (Word number s) h = read_word number
  take_expr arrays each x (Counter depth) h = given _
  take_expr arrays each x (Element array place s indices) h = last (take_exprs arrays each x indices h.1) (λ is. bind (where_defined _) (λ address. read_memory address))
  take_expr arrays each x (Signed sign s e) h = last (take_expr arrays each x e h) (λ w. given _)
  take_expr arrays each x (Converted to e) h = last (take_expr arrays each x e h) (λ w. given _)
  take_expr arrays each x (Input port) h = read_input x port
  take_expr arrays each x (Picked pick a b) h = bind (take_expr arrays each x a h.0) (λ v. last (take_expr arrays each x b h.1) (λ w. given _))
  take_expr arrays each x (Two op reading a b) h =
      bind (take_expr arrays each x a h.0) (λ v. right_takes op reading each arrays x b v (λ more g. take_expr arrays more x b g) (is_conditional op) refl h.1)
  take_expr arrays each x (Choice s c a b) h =
      let left = none_expr arrays a h.1 in
      let right = none_expr arrays b h.2 in
      alike (sym (append-nil (inputs c)) ∙ sym (append-nil (inputs c ++ [])) ∙ ap₂ (λ (ps qs : List ℕ). inputs c ++ ps ++ qs) (sym left) (sym right))
      (last (take_expr arrays each x c h.0) (λ v. if_true (is_true v) (alike left (take_expr arrays false x a h.1)) (alike right (take_expr arrays false x b h.2))))

  take_exprs : (arrays : List Array) (each : Bool) (x : Context) (es : Exprs) → IsTypedExprs arrays each es → Taking (inputs_of es) (values x es)
  take_exprs arrays each x NoExprs h = given _
  take_exprs arrays each x (MoreExprs e es) h = bind (take_expr arrays each x e h.0) (λ w. last (take_exprs arrays each x es h.1) (λ ws. given _))

took_at : {A : Type 0} (s t : State) (ports : List ℕ) (r : Option (A × State)) (a : A) → Took s ports r → r ≡ Some (a, t) → TakesAlone s t ports
took_at {A = A} s t ports r a h is = let g : Took {A = A} s ports (Some (a, t)) = rw is at h in g

pub expressions_take : ExpressionsTake
expressions_take arrays each x e before after w h is = took_at before after (inputs e) (value x e before) w ((take_expr arrays each x e h).took before) is

pub indices_take : IndicesTake
indices_take arrays each x es before after ws h is = took_at before after (inputs_of es) (values x es before) ws ((take_exprs arrays each x es h).took before) is

-- ---- runs that take words

abbrev pub Counted : {A : Type 0} → State → List ℕ → Option (A × State) → Type 0
Counted s ports None = Unit {0}
Counted s ports (Some r) = Takes s r.1 ports

record Counting {A : Type 0} (ports : List ℕ) (run : Run A) : Type 0 where
  counted : (s : State) → Counted s ports (run s)

of_alone : {A : Type 0} (s : State) (ports : List ℕ) (r : Option (A × State)) → Took s ports r → Counted s ports r
of_alone s ports None h = tt
of_alone s ports (Some r) h = h.taken

counts : {A : Type 0} {ps : List ℕ} {w : Run A} → Taking ps w → Counting ps w
counts {ps = ps} {w = w} h = record { counted = λ s. of_alone s ps (w s) (h.took s) }

counts_further : {A : Type 0} (s t : State) (ps qs : List ℕ) (r : Option (A × State)) → Takes s t ps → Counted t qs r → Counted s (ps ++ qs) r
counts_further s t ps qs None h g = tt
counts_further s t ps qs (Some r) h g = then_takes s t r.1 ps qs h g

counts_onward : {A B : Type 0} (s : State) (ps qs : List ℕ) (r : Option (A × State)) (next : A → Run B) → Counted s ps r → ((a : A) → Counting qs (next a)) → Counted s (ps ++ qs) (onward next r)
counts_onward s ps qs None next h k = tt
counts_onward s ps qs (Some r) next h k = counts_further s r.1 ps qs (next r.0 r.1) h ((k r.0).counted r.1)

then_counts : {A B : Type 0} {ps qs : List ℕ} {w : Run A} {next : A → Run B} → Counting ps w → ((a : A) → Counting qs (next a)) → Counting (ps ++ qs) (w >>= next)
then_counts {ps = ps} {qs = qs} {w = w} {next = next} h k = record { counted = λ s. counts_onward s ps qs (w s) next (h.counted s) k }

rest_counts : {A B : Type 0} {ps qs : List ℕ} {w : Run A} {next : Run B} → Counting ps w → Counting qs next → Counting (ps ++ qs) (w >> next)
rest_counts {ps = ps} {qs = qs} {w = w} {next = next} h k = record { counted = λ s. counts_onward s ps qs (w s) (λ _. next) (h.counted s) (λ _. k) }

alike_counts : {A : Type 0} {ps qs : List ℕ} {w : Run A} → ps ≡ qs → Counting ps w → Counting qs w
alike_counts {w = w} e h = subst (λ z. Counting z w) e h

last_counts : {A B : Type 0} {ps : List ℕ} {w : Run A} {next : A → Run B} → Counting ps w → ((a : A) → Counting [] (next a)) → Counting ps (w >>= next)
last_counts {ps = ps} h k = alike_counts (append-nil ps) (then_counts h k)

if_true_counts : {A : Type 0} {ps : List ℕ} {v w : Run A} (b : Bool) → Counting ps v → Counting ps w → Counting ps (if b then v else w)
if_true_counts true h g = h
if_true_counts false h g = g

sets_word : (number word : ℕ) → Counting [] (set_word number word)
sets_word number word = record { counted = λ s. λ port. sym (add-zero (s.taken port)) }

stores : (address word : ℕ) → Counting [] (stored address word)
stores address word = record { counted = λ s. λ port. sym (add-zero (s.taken port)) }

sends : (port word : ℕ) → Counting [] (sent port word)
sends port word = record { counted = λ s. λ port. sym (add-zero (s.taken port)) }

-- ---- statements

take_assign : (arrays : List Array) (each : Bool) (x : Context) (t : Target) (op : Option Binary) (e : Expr) → IsTypedTarget arrays each t → IsTypedExpr arrays each e → Counting (target_inputs t ++ inputs e) (assign x t op e)
take_assign arrays each x (TheWord number s) op e h g =
    last_counts (counts (take_expr arrays each x e g)) (λ new. then_counts (counts (read_word number)) (λ old. sets_word number (changed op s (signedness_of e) old new)))
take_assign arrays each x (TheElement array place s indices) op e h g =
    then_counts (counts (take_exprs arrays each x indices h.2)) (λ is.
    then_counts (counts (where_defined _)) (λ address.
    last_counts (counts (take_expr arrays each x e g)) (λ new. then_counts (counts (read_memory address)) (λ old. stores address (changed op s (signedness_of e) old new)))))

take_initials : (arrays : List Array) (each : Bool) (x : Context) (is : List Initial) → AreTypedInitials arrays each is → Counting (initial_inputs is) (declared x is)
take_initials arrays each x [] h = counts (given _)
take_initials arrays each x (i ∷ is) h =
    then_counts (counts (take_expr arrays each x i.value h.0)) (λ word. rest_counts (sets_word i.number word) (take_initials arrays each x is h.1))

mutual
  unfolding IsTypedStmt stmt_inputs stmt

  take_stmt : (arrays : List Array) (each : Bool) (x : Context) (t : Stmt) → IsTypedStmt arrays each t → Counting (stmt_inputs t) (stmt x t)
  take_stmt arrays each x (Words initials) h = take_initials arrays each x initials h
  take_stmt arrays each x (Block body) h = take_stmts arrays each x body h
  take_stmt arrays each x (If c a) h =
      let chosen = none_stmt arrays a h.1 in
      alike_counts (sym (append-nil (inputs c)) ∙ ap (λ ps. inputs c ++ ps) (sym chosen))
      (last_counts (counts (take_expr arrays each x c h.0)) (λ v. if_true_counts (is_true v) (alike_counts chosen (take_stmt arrays false x a h.1)) (counts (given _))))
  take_stmt arrays each x (IfElse c a b) h =
      let chosen = none_stmt arrays a h.1 in
      let other = none_stmt arrays b h.2 in
      alike_counts (sym (append-nil (inputs c)) ∙ sym (append-nil (inputs c ++ [])) ∙ ap₂ (λ (ps qs : List ℕ). inputs c ++ ps ++ qs) (sym chosen) (sym other))
      (last_counts (counts (take_expr arrays each x c h.0)) (λ v. if_true_counts (is_true v) (alike_counts chosen (take_stmt arrays false x a h.1)) (alike_counts other (take_stmt arrays false x b h.2))))
  take_stmt arrays each x (Output port e) h = last_counts (counts (take_expr arrays each x e h.1)) (λ word. sends port word)
  take_stmt arrays each x (Assign target op e) h = take_assign arrays each x target op e h.0 h.1

  take_stmts : (arrays : List Array) (each : Bool) (x : Context) (ts : Stmts) → AreTypedStmts arrays each ts → Counting (stmts_inputs ts) (stmts x ts)
  take_stmts arrays each x NoStmts h = counts (given _)
  take_stmts arrays each x (MoreStmts t ts) h = rest_counts (take_stmt arrays each x t h.0) (take_stmts arrays each x ts h.1)

counted_at : {A : Type 0} (s t : State) (ports : List ℕ) (r : Option (A × State)) (a : A) → Counted s ports r → r ≡ Some (a, t) → Takes s t ports
counted_at {A = A} s t ports r a h is = let g : Counted {A = A} s ports (Some (a, t)) = rw is at h in g

pub statements_take : StatementsTake
statements_take arrays each x t before after u h is = counted_at before after (stmt_inputs t) (stmt x t before) u ((take_stmt arrays each x t h).counted before) is

pub blocks_take : BlocksTake
blocks_take arrays each x ts before after u h is = counted_at before after (stmts_inputs ts) (stmts x ts before) u ((take_stmts arrays each x ts h).counted before) is

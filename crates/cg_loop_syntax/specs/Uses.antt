-- The uses that a body makes of names and ports, in the order of its text, and the faults of these uses.
use Rattle.std.specs.Prelude.{ℕ, ◌+◌, eqb, nat_lt, if◌then◌else◌, bytes_eq, Bool, true, false, ◌&&◌, ◌||◌, not, List, [], ◌∷◌, ◌++◌, Option, Some, None, is_some, is_none}
use Rattle.std.specs.List.{list_any, flat_map}
use Rattle.std.specs.Option.{option_map, option_or}
use Rattle.cg_model.specs.Limits.{last_port, most_memory}
use Rattle.cg_loop_syntax.specs.declared.uses.Role.{Role}
use Rattle.cg_loop_syntax.specs.declared.uses.Role.TheVariants as roles
use Rattle.cg_loop_syntax.specs.declared.fault.LoopFault.{LoopFault}
use Rattle.cg_loop_syntax.specs.declared.fault.LoopFault.TheVariants.{UnknownName, RepeatedName, CarryAssign, BadArray, BadPort}
use Rattle.cg_loop_syntax.specs.Loop.{Expr, Num, Turn, In, Scalar, Item, Two, Three, Stmt, Bind, Assign, Put, Emit, Decl, Array, Carry, Body}

-- the use of a name, or of a port, which has no name; and the place of the name or of the port's number in a text
pub record Use : Type 0 where
  pub role : Role
  pub name : List ℕ
  pub place : ℕ

-- ---- the uses of a body without a text

abbrev pub of_name : Role → List ℕ → Use
of_name role x = record { role = role; name = x; place = 0 }

abbrev pub of_port : Role → Use
of_port role = record { role = role; name = []; place = 0 }

abbrev pub expr_uses : Expr → List Use
expr_uses (Num w) = []
expr_uses Turn = []
expr_uses (In p) = of_port (roles.Input p) ∷ []
expr_uses (Scalar x) = of_name roles.Scalar x ∷ []
expr_uses (Item a e) = of_name roles.Item a ∷ expr_uses e
expr_uses (Two op a b) = expr_uses a ++ expr_uses b
expr_uses (Three op a b c) = expr_uses a ++ (expr_uses b ++ expr_uses c)

abbrev pub guard_uses : Option Expr → List Use
guard_uses None = []
guard_uses (Some g) = expr_uses g

-- a `let` declares its name after its value
abbrev pub stmt_uses : Stmt → List Use
stmt_uses (Bind x e) = expr_uses e ++ of_name roles.Bind x ∷ []
stmt_uses (Assign x e) = of_name roles.Assign x ∷ expr_uses e
stmt_uses (Put a ix v g) = of_name roles.Item a ∷ (expr_uses ix ++ (expr_uses v ++ guard_uses g))
stmt_uses (Emit p v g) = of_port (roles.Output p) ∷ (expr_uses v ++ guard_uses g)

abbrev pub decl_use : Decl → Use
decl_use (Array x at len) = of_name (roles.Array at len) x
decl_use (Carry x start) = of_name roles.Carry x

abbrev pub decls_uses : List Decl → List Use
decls_uses [] = []
decls_uses (d ∷ ds) = decl_use d ∷ decls_uses ds

abbrev pub body_uses : Body → List Use
body_uses P = decls_uses P.decls ++ flat_map stmt_uses P.stmts

-- ---- the faults of a use, by the uses before it and after it

-- the first declaration of a name
abbrev pub declares : Role → Bool
declares (roles.Array at len) = true
declares roles.Carry = true
declares roles.Bind = true
declares _ = false

abbrev pub declared : List Use → List ℕ → Option Role
declared [] x = None
declared (u ∷ us) x = if declares u.role && bytes_eq u.name x then Some u.role else declared us x

-- which uses a declaration allows
abbrev pub is_array : Option Role → Bool
is_array (Some (roles.Array at len)) = true
is_array _ = false

abbrev pub is_carry : Option Role → Bool
is_carry (Some roles.Carry) = true
is_carry _ = false

abbrev pub is_scalar : Option Role → Bool
is_scalar (Some roles.Carry) = true
is_scalar (Some roles.Bind) = true
is_scalar _ = false

abbrev pub may : Role → Option Role → Bool
may roles.Scalar known = is_scalar known
may roles.Item known = is_array known
may roles.Assign known = is_carry known
may _ known = true

-- Q2: a name that is not declared before, or is declared for another use
abbrev pub is_unknown : List Use → Use → List Use → Bool
is_unknown before u rest = not (may u.role (declared before u.name))

-- Q3: a declaration of a name that is declared before
abbrev pub is_repeated : List Use → Use → List Use → Bool
is_repeated before u rest = declares u.role && is_some (declared before u.name)

-- an assignment of the carry of the given name
abbrev pub is_assign : Role → Bool
is_assign roles.Assign = true
is_assign _ = false

abbrev pub assigns : List ℕ → Use → Bool
assigns x u = is_assign u.role && bytes_eq u.name x

-- Q4: a carry that is not assigned after its declaration, and an assignment of a carry that is assigned before
abbrev pub is_misassigned : List Use → Use → List Use → Bool
is_misassigned before u rest =
    (is_carry (Some u.role) && not (list_any (assigns u.name) rest)) || (is_assign u.role && list_any (assigns u.name) before)

-- two arrays have a word in common
abbrev pub meets : ℕ → ℕ → Role → Bool
meets at len (roles.Array at' len') = nat_lt at (at' + len') && nat_lt at' (at + len)
meets at len _ = false

abbrev pub misplaced : List Use → Role → Bool
misplaced before (roles.Array at len) = eqb len 0 || (nat_lt most_memory (at + len) || list_any (λ u. meets at len u.role) before)
misplaced before _ = false

-- Q5: an array of no word, or with words past the greatest address, or one that overlaps an earlier array
abbrev pub is_misplaced : List Use → Use → List Use → Bool
is_misplaced before u rest = misplaced before u.role

abbrev pub emits : ℕ → Role → Bool
emits p (roles.Output q) = eqb p q
emits p _ = false

abbrev pub bad_port : List Use → Role → Bool
bad_port before (roles.Input p) = nat_lt last_port p
bad_port before (roles.Output p) = nat_lt last_port p || list_any (λ u. emits p u.role) before
bad_port before _ = false

-- Q6: a port that doesn't exist, and a second output to one port
abbrev pub is_bad_port : List Use → Use → List Use → Bool
is_bad_port before u rest = bad_port before u.role

-- ---- the first fault

-- the place of the first use for which a test is true
abbrev pub first_where : (List Use → Use → List Use → Bool) → List Use → List Use → Option ℕ
first_where test before [] = None
first_where test before (u ∷ rest) = if test before u rest then Some u.place else first_where test (before ++ u ∷ []) rest

-- the fault of the lowest number, at its first place
abbrev pub fault_of : List Use → Option LoopFault
fault_of us =
    option_or (option_map UnknownName (first_where is_unknown [] us))
    (option_or (option_map RepeatedName (first_where is_repeated [] us))
    (option_or (option_map CarryAssign (first_where is_misassigned [] us))
    (option_or (option_map BadArray (first_where is_misplaced [] us))
    (option_map BadPort (first_where is_bad_port [] us)))))

-- a body to which none of Q2 to Q6 applies
abbrev pub is_ruled : Body → Bool
is_ruled P = is_none (fault_of (body_uses P))

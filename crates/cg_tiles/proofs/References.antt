-- References name the same drivers where equal ones are there once.
use Rattle.std.proofs.Common.{◌≡◌, ℕ, List, [], ◌∷◌, ◌++◌, map, fold, filter_map, Bool, true, false, cond, ◌||◌, eqb, Option, Some, None, bytes_eq, refl, ap, sym, ◌∙◌}
use Rattle.std.specs.List.{list_any}
use Rattle.std.proofs.lemmas.List.Elements.{filter_map-append}
use Rattle.std.proofs.lemmas.List.Folds.{list_any-append}
use Rattle.std.proofs.lemmas.List.Sums.{fold-append}
use Rattle.std.proofs.lemmas.Slice.Eq.{bytes_eq-Decides}
use Rattle.cg_parts.specs.Parts.{with_name, distinct}
use Rattle.cg_grid.specs.declared.written.Side.{Side}
use Rattle.cg_grid.specs.declared.written.Reference.{Reference}
use Rattle.cg_grid.specs.declared.written.Side.TheVariants.{Here, North, East, South, West, Anywhere}
use Rattle.cg_grid.specs.declared.grid.Cell.{Cell}
use Rattle.cg_grid.specs.declared.grid.Grid.{Grid}
use Rattle.cg_tiles.specs.Elements.{name_on, driver_of, drivers_of}
use Rattle.cg_tiles.specs.Lean.{letter, key_of, is_same, with_reference, references_once}
use Rattle.std.proofs.lemmas.Bool.{or_left}

-- ---- names that stand in a list stay there

kept_by : (b : Bool) (n : List ℕ) (names : List (List ℕ)) (name : List ℕ) → list_any (bytes_eq n) names ≡ true → list_any (bytes_eq n) (cond b names (names ++ name ∷ [])) ≡ true
kept_by true n names name e = e
kept_by false n names name e = list_any-append (bytes_eq n) names (name ∷ []) ∙ or_left (list_any (bytes_eq n) names) (list_any (bytes_eq n) (name ∷ [])) e

kept : (n : List ℕ) (names more : List (List ℕ)) → list_any (bytes_eq n) names ≡ true → list_any (bytes_eq n) (fold with_name names more) ≡ true
kept n names [] e = e
kept n names (x ∷ xs) e = kept n (with_name names x) xs (kept_by (list_any (bytes_eq x) names) n names x e)

or_here : (a b : Bool) → b ≡ true → (a || (b || false)) ≡ true
or_here true b e = refl
or_here false true e = refl
or_here false false e = e

added_by : (b : Bool) (n : List ℕ) (names : List (List ℕ)) → list_any (bytes_eq n) names ≡ b → list_any (bytes_eq n) (cond b names (names ++ n ∷ [])) ≡ true
added_by true n names e = e
added_by false n names e = list_any-append (bytes_eq n) names (n ∷ []) ∙ or_here (list_any (bytes_eq n) names) (bytes_eq n n) ((bytes_eq-Decides n n).1 refl)

added : (n : List ℕ) (names : List (List ℕ)) → list_any (bytes_eq n) (with_name names n) ≡ true
added n names = added_by (list_any (bytes_eq n) names) n names refl

-- ---- equal references name the same drivers

side_of : ℕ → Side
side_of n = cond (eqb n 104) Here (cond (eqb n 110) North (cond (eqb n 101) East (cond (eqb n 115) South (cond (eqb n 119) West Anywhere))))

side_of-letter : (side : Side) → side_of (letter side) ≡ side
unfolding side_of
side_of-letter Here = refl
side_of-letter North = refl
side_of-letter East = refl
side_of-letter South = refl
side_of-letter West = refl
side_of-letter Anywhere = refl

same_driver : (grid : Grid) (cell : Cell) (r x : Reference) → is_same r x ≡ true → driver_of grid cell x ≡ driver_of grid cell r
same_driver grid cell r x e =
    let keys : key_of r ≡ key_of x = (bytes_eq-Decides (key_of r) (key_of x)).0 e in
    let letters : letter r.side ≡ letter x.side = cc in
    let names : r.name ≡ x.name = cc in
    let sides : r.side ≡ x.side = sym (side_of-letter r.side) ∙ ap side_of letters ∙ side_of-letter x.side in
    ap (λ side. name_on grid cell side x.name) (sym sides) ∙ ap (name_on grid cell r.side) (sym names)

-- the names that references add to others
adding : Grid → Cell → List (List ℕ) → List Reference → List (List ℕ)
adding grid cell names references = fold with_name names (filter_map (driver_of grid cell) references)

adding-append : (grid : Grid) (cell : Cell) (names : List (List ℕ)) (xs ys : List Reference) → adding grid cell names (xs ++ ys) ≡ adding grid cell (adding grid cell names xs) ys
unfolding adding
adding-append grid cell names xs ys =
    ap (fold with_name names) (filter_map-append (driver_of grid cell) xs ys) ∙ fold-append with_name names (filter_map (driver_of grid cell) xs) (filter_map (driver_of grid cell) ys)

adding-nil : (grid : Grid) (cell : Cell) (names : List (List ℕ)) → adding grid cell names [] ≡ names
unfolding adding
adding-nil grid cell names = refl

adding-none : (grid : Grid) (cell : Cell) (names : List (List ℕ)) (r : Reference) → driver_of grid cell r ≡ None → adding grid cell names (r ∷ []) ≡ names
unfolding adding
adding-none grid cell names r e = rw e refl

adding-some : (grid : Grid) (cell : Cell) (names : List (List ℕ)) (r : Reference) (n : List ℕ) → driver_of grid cell r ≡ Some n → adding grid cell names (r ∷ []) ≡ with_name names n
unfolding adding
adding-some grid cell names r n e = rw e refl

adding-keeps : (grid : Grid) (cell : Cell) (n : List ℕ) (names : List (List ℕ)) (xs : List Reference) → list_any (bytes_eq n) names ≡ true → list_any (bytes_eq n) (adding grid cell names xs) ≡ true
unfolding adding
adding-keeps grid cell n names xs e = kept n names (filter_map (driver_of grid cell) xs) e

-- the driver of a reference that stands among others is among theirs
by_first : (grid : Grid) (cell : Cell) (r x : Reference) (n : List ℕ) (names : List (List ℕ)) (xs : List Reference) (b : Bool) → driver_of grid cell r ≡ Some n → is_same r x ≡ b
    → (b || list_any (is_same r) xs) ≡ true
    → (list_any (is_same r) xs ≡ true → list_any (bytes_eq n) (adding grid cell (adding grid cell names (x ∷ [])) xs) ≡ true)
    → list_any (bytes_eq n) (adding grid cell (adding grid cell names (x ∷ [])) xs) ≡ true
by_first grid cell r x n names xs true is same e rest =
    adding-keeps grid cell n (adding grid cell names (x ∷ [])) xs
    (ap (list_any (bytes_eq n)) (adding-some grid cell names x n (same_driver grid cell r x same ∙ is)) ∙ added n names)
by_first grid cell r x n names xs false is other e rest = rest e

there : (grid : Grid) (cell : Cell) (r : Reference) (n : List ℕ) (names : List (List ℕ)) (xs : List Reference) → driver_of grid cell r ≡ Some n → list_any (is_same r) xs ≡ true
    → list_any (bytes_eq n) (adding grid cell names xs) ≡ true
there grid cell r n names [] is e = let bad : false ≡ true = e in absurd (cc)
there grid cell r n names (x ∷ xs) is e =
    ap (list_any (bytes_eq n)) (adding-append grid cell names (x ∷ []) xs)
    ∙ by_first grid cell r x n names xs (is_same r x) is refl e (λ f. there grid cell r n (adding grid cell names (x ∷ [])) xs is f)

-- so it adds nothing
adds_nothing : (grid : Grid) (cell : Cell) (r : Reference) (xs : List Reference) → list_any (is_same r) xs ≡ true → (o : Option (List ℕ)) → driver_of grid cell r ≡ o
    → adding grid cell (adding grid cell [] xs) (r ∷ []) ≡ adding grid cell [] xs
adds_nothing grid cell r xs e None is = adding-none grid cell (adding grid cell [] xs) r is
adds_nothing grid cell r xs e (Some n) is =
    let names = adding grid cell [] xs in
    adding-some grid cell names r n is ∙ ap (λ b. cond b names (names ++ n ∷ [])) (there grid cell r n [] xs is e)

one_more : (grid : Grid) (cell : Cell) (r : Reference) (xs : List Reference) (b : Bool) → list_any (is_same r) xs ≡ b
    → adding grid cell [] (cond b xs (xs ++ r ∷ [])) ≡ adding grid cell (adding grid cell [] xs) (r ∷ [])
one_more grid cell r xs true e = sym (adds_nothing grid cell r xs e (driver_of grid cell r) refl)
one_more grid cell r xs false e = adding-append grid cell [] xs (r ∷ [])

all_more : (grid : Grid) (cell : Cell) (xs ys : List Reference) → adding grid cell [] (fold with_reference xs ys) ≡ adding grid cell (adding grid cell [] xs) ys
all_more grid cell xs [] = sym (adding-nil grid cell (adding grid cell [] xs))
all_more grid cell xs (r ∷ rs) =
    all_more grid cell (with_reference xs r) rs
    ∙ ap (λ names. adding grid cell names rs) (one_more grid cell r xs (list_any (is_same r) xs) refl)
    ∙ sym (adding-append grid cell (adding grid cell [] xs) (r ∷ []) rs)

pub drivers-once : (grid : Grid) (cell : Cell) (references : List Reference) → drivers_of grid cell (references_once references) ≡ drivers_of grid cell references
unfolding distinct adding
drivers-once grid cell references = all_more grid cell [] references

pub ports-once : (grid : Grid) (cell : Cell) (ports : List (List Reference)) → map (drivers_of grid cell) (map references_once ports) ≡ map (drivers_of grid cell) ports
ports-once grid cell [] = refl
ports-once grid cell (x ∷ xs) =
    ap (λ names. names ∷ map (drivers_of grid cell) (map references_once xs)) (drivers-once grid cell x) ∙ ap (λ rest. drivers_of grid cell x ∷ rest) (ports-once grid cell xs)

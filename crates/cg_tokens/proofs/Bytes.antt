-- From the tokens to the bytes.
use Rattle.std.proofs.Common.{◌≡◌, ℕ, ◌+◌, ◌-◌, suc, Option, List, ◌∷◌, ◌++◌, length, take, drop, Option, Some, sym, ◌∙◌, ap, subst, arith, length-drop}
use Rattle.std.proofs.lemmas.List.{append_cancel_right, take-append-drop, map-append, drop-drop}
use Rattle.cg_tokens.specs.Faults.{AreLast, Begins, Ends, FaultIn}
use Rattle.cg_tokens.specs.Table.{run, Spelled, IsTable}
use Rattle.cg_tokens.specs.Tokens.{Placed, tokens_of, texts, place_of}
use Rattle.cg_tokens.proofs.Stacks.{fault, same_fault, no_file}

-- what has its fault in the bytes is no file
pub no_text : {double : Option ℕ} (IsFile : List (List ℕ) → Type 0) (bytes : List ℕ) (place : ℕ) → FaultIn double IsFile bytes place → IsFile (texts (tokens_of double bytes)) → ⊥
no_text {double} IsFile bytes place f p = no_file IsFile (texts (tokens_of double bytes)) (texts f.rest) (texts f.front) (ap texts f.whole ∙ map-append (λ (t : Placed). t.text) f.front f.rest) f.after p

-- all tokens are the last of themselves
pub all_last : (all rest : List Placed) → rest ≡ all → AreLast rest all
all_last all rest e =
    let none : length all - length rest ≡ 0 = omega (arith, ap length e) in
    ap (λ n. drop n all) none ∙ sym e

-- so are those behind the first of the last
pub later_last : (all rest more : List Placed) (t : Placed) → AreLast rest all → rest ≡ t ∷ more → AreLast more all
later_last all rest more t last e =
    let before = length all - length rest in
    let one_more : length rest ≡ suc (length more) = ap length e in
    let size : length all - before ≡ length rest = sym (length-drop before all) ∙ ap length last in
    let place : length all - length more ≡ before + 1 = omega arith in
    ap (λ n. drop n all) place ∙ sym (drop-drop 1 before all) ∙ ap (drop 1) (last ∙ e)

module _ {S : Type 0} (rule : S → List ℕ → Option (List S)) (Spells : S → List (List ℕ) → Type 0) (table : IsTable rule Spells) (start : List S)
    (IsFile : List (List ℕ) → Type 0) (to : (ts : List (List ℕ)) → Spelled Spells start ts → IsFile ts) (back : (ts : List (List ℕ)) → IsFile ts → Spelled Spells start ts) where
  -- where the run of a table stops, the bytes have their fault
  pub fault_in : (double : Option ℕ) (bytes : List ℕ) (rest : List Placed) (place : ℕ) → AreLast rest (tokens_of double bytes) → run rule start (texts (tokens_of double bytes)) ≡ Some (texts rest) → place ≡ place_of (length bytes) rest → FaultIn double IsFile bytes place
  fault_in double bytes rest place last stops here =
      let all = tokens_of double bytes in
      let f = same_fault (Spelled Spells start) IsFile to back (texts all) (texts rest) (fault rule Spells table start (texts all) (texts rest) stops) in
      let front = take (length all - length rest) all in
      let parts : all ≡ front ++ rest = sym (take-append-drop (length all - length rest) all) ∙ ap (λ (x : List Placed). front ++ x) last in
      let both : f.front ++ texts rest ≡ texts front ++ texts rest = sym f.whole ∙ ap texts parts ∙ map-append (λ (t : Placed). t.text) front rest in
      let same : f.front ≡ texts front = append_cancel_right f.front (texts front) (texts rest) both in
      record {
        front = front;
        rest = rest;
        whole = parts;
        before = subst (Begins IsFile) same f.before;
        after = subst (λ x. Ends IsFile x (texts rest)) same f.after;
        at = here;
      }

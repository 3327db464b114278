-- The numbers that a JSON value writes are words.
use Rattle.std.proofs.Common.{◌≡◌, ℕ, zero, suc, ◌+◌, ◌<◌, ◌^◌, List, [], ◌∷◌, Option, Some, None, Result, Ok, Err, Bool, true, false, cond, refl, ap, ◌∙◌, sym, arith, lit<}
use Rattle.std.specs.Prelude.{nat_lt, slice_get, slice_index, codes, IfOk}
use Rattle.std.specs.Option.{option_map, option_and_then, option_or}
use Rattle.serde_json.specs.Data.{Data}
use Rattle.serde_json.specs.Find.{as_number, as_u64}
use Rattle.std.proofs.lemmas.Bool.{ltb-true}
use Rattle.cg_word.specs.Word.{words}
use Rattle.cg_reading.specs.Items.{all_of, all_or_first, and_rest}
use Rattle.cg_reading.specs.declared.misfit.Misfit.{Misfit}
use Rattle.cg_reading.specs.Reads.{IsReadAt}
use Rattle.cg_json.proofs.Elements.{read_item}
use Rattle.cg_json.specs.Members.{fitting, word_in, items_at, items_or_none, has_other_keys}
use Rattle.cg_kernel.specs.Written.{KernelPlace, Format, WrittenArg, WrittenNode, WrittenEdge, WrittenKernel, arg_in, source_in, source_from, node_in, node_from, joined, written_from, format_in, written_of}
use Rattle.cg_kernel.specs.declared.fault.KernelPlace.TheVariants as place
use Rattle.cg_kernel.specs.declared.written.WrittenArg.TheVariants.{Number, Source}
use Rattle.cg_kernel.specs.Words.{HasWords, HasAllWords}

-- ---- each item of a list was read

pub all_of-item : {T : Type 0} (read : Data → Option T) (items : List Data) (xs : List T) (i : ℕ) (x : T) → all_of read items ≡ Some xs → slice_get xs i ≡ Some x → (d : Data) × (read d ≡ Some x)
all_of-item read [] xs i x all at =
    let none : [] ≡ xs = cc in
    let bad : None ≡ Some x = ap (λ l. slice_get l i) none ∙ at in absurd (cc)
all_of-item read (d ∷ ds) xs zero x all at =
    let first = read_item (read d) (all_of read ds) xs all in
    let here : Some first.0 ≡ Some x = ap (λ l. slice_get l 0) first.1.1.2 ∙ at in
    (d, first.1.1.0 ∙ here)
all_of-item read (d ∷ ds) xs (suc i) x all at =
    let first = read_item (read d) (all_of read ds) xs all in
    all_of-item read ds first.1.0 i x first.1.1.1 (ap (λ l. slice_get l (suc i)) first.1.1.2 ∙ at)

read_next : {T : Type 0} (k : ℕ) (o : Option T) (rest : Result (List T) ℕ) (xs : List T) → and_rest k o rest ≡ Ok xs
    → (x : T) × ((ys : List T) × ((o ≡ Some x) × (rest ≡ Ok ys) × (x ∷ ys ≡ xs)))
read_next k None rest xs e = let bad : Err k ≡ Ok xs = e in absurd (cc)
read_next k (Some x) (Err j) xs e = let bad : Err j ≡ Ok xs = e in absurd (cc)
read_next k (Some x) (Ok ys) xs e = (x, (ys, (refl, refl, (cc))))

pub all_or_first-item : {T : Type 0} (read : Data → Option T) (k : ℕ) (items : List Data) (xs : List T) (i : ℕ) (x : T) → all_or_first read k items ≡ Ok xs → slice_get xs i ≡ Some x → (d : Data) × (read d ≡ Some x)
all_or_first-item read k [] xs i x all at =
    let none : [] ≡ xs = cc in
    let bad : None ≡ Some x = ap (λ l. slice_get l i) none ∙ at in absurd (cc)
all_or_first-item read k (d ∷ ds) xs zero x all at =
    let first = read_next k (read d) (all_or_first read (k + 1) ds) xs all in
    let here : Some first.0 ≡ Some x = ap (λ l. slice_get l 0) first.1.1.2 ∙ at in
    (d, first.1.1.0 ∙ here)
all_or_first-item read k (d ∷ ds) xs (suc i) x all at =
    let first = read_next k (read d) (all_or_first read (k + 1) ds) xs all in
    all_or_first-item read (k + 1) ds first.1.0 i x first.1.1.1 (ap (λ l. slice_get l (suc i)) first.1.1.2 ∙ at)

-- ---- words

fitting_at : (b : Bool) (n w : ℕ) → nat_lt n (2 ^ 32) ≡ b → cond b (Some n) None ≡ Some w → w < words
fitting_at true n w e is = let same : n ≡ w = cc in let below = ltb-true n (2 ^ 32) e in omega (arith, same, below)
fitting_at false n w e is = let bad : None ≡ Some w = is in absurd (cc)

fits_or : (o : Option ℕ) (w : ℕ) → option_and_then fitting o ≡ Some w → w < words
fits_or None w e = let bad : None ≡ Some w = e in absurd (cc)
fits_or (Some n) w e = fitting_at (nat_lt n (2 ^ 32)) n w refl e

pub word_in-below : (d : Data) (w : ℕ) → word_in d ≡ Some w → w < words
word_in-below d w e = fits_or (option_and_then as_u64 (as_number d)) w e

-- a word of the list, or 0 past its end
below_words : (xs : List ℕ) (k : ℕ) → ((i x : ℕ) → slice_get xs i ≡ Some x → x < words) → slice_index xs k < words
below_words [] k h = lit< tt
below_words (x ∷ xs) zero h = h 0 x refl
below_words (x ∷ xs) (suc k) h = below_words xs k (λ i y at. h (suc i) y at)

pub words_in-below : (o : Option (List Data)) (ws : List ℕ) (k : ℕ) → option_and_then (all_of word_in) o ≡ Some ws → slice_index ws k < words
words_in-below None ws k e = let bad : None ≡ Some ws = e in absurd (cc)
words_in-below (Some items) ws k e = below_words ws k (λ i x at. let read = all_of-item word_in items ws i x e at in word_in-below read.0 x read.1)

-- ---- arguments

of_source : (from : Option (List ℕ)) (distance : Option ℕ) (init : Option (List ℕ)) (other : Bool) (a : WrittenArg) → source_from from distance init other ≡ Some a
    → ((ws : List ℕ) (k : ℕ) → init ≡ Some ws → slice_index ws k < words) → HasWords a
of_source None distance init other a e h = let bad : None ≡ Some a = e in absurd (cc)
of_source (Some from) None init other a e h = let bad : None ≡ Some a = e in absurd (cc)
of_source (Some from) (Some distance) None other a e h = let bad : None ≡ Some a = e in absurd (cc)
of_source (Some from) (Some distance) (Some init) other a e h =
    let made : Source from distance init other ≡ a = cc in
    record {
      number = λ c is. let bad : Source from distance init other ≡ Number c = made ∙ is in absurd (cc);
      init = λ from' d k init' other' is. h init' k (let same : Source from distance init other ≡ Source from' d init' other' = made ∙ is in cc);
    }

of_arg : (o : Option ℕ) (d : Data) (a : WrittenArg) → word_in d ≡ o → option_or (option_map Number o) (source_in d) ≡ Some a → HasWords a
of_arg (Some c) d a word e =
    let made : Number c ≡ a = cc in
    record {
      number = λ c' is. word_in-below d c' (word ∙ (let same : Number c ≡ Number c' = made ∙ is in cc));
      init = λ from' d' k init' other' is. let bad : Number c ≡ Source from' d' init' other' = made ∙ is in absurd (cc);
    }
of_arg None d a word e = of_source _ _ _ _ a e (λ ws k. words_in-below (items_or_none (codes "init") d) ws k)

pub arg_in-words : (d : Data) (a : WrittenArg) → arg_in d ≡ Some a → HasWords a
arg_in-words d a e = of_arg (word_in d) d a refl e

-- ---- nodes and the whole

of_args : (o : Option (List Data)) (args : List WrittenArg) (p : ℕ) (a : WrittenArg) → option_and_then (all_of arg_in) o ≡ Some args → slice_get args p ≡ Some a → HasWords a
of_args None args p a e at = let bad : None ≡ Some args = e in absurd (cc)
of_args (Some items) args p a e at = let read = all_of-item arg_in items args p a e at in arg_in-words read.0 a read.1

of_node : (name op : Option (List ℕ)) (args : Option (List WrittenArg)) (port : Option (Option ℕ)) (other : Bool) (n : WrittenNode) → node_from name op args port other ≡ Some n → args ≡ Some n.args
of_node None op args port other n e = let bad : None ≡ Some n = e in absurd (cc)
of_node (Some name) None args port other n e = let bad : None ≡ Some n = e in absurd (cc)
of_node (Some name) (Some op) None port other n e = let bad : None ≡ Some n = e in absurd (cc)
of_node (Some name) (Some op) (Some args) None other n e = let bad : None ≡ Some n = e in absurd (cc)
of_node (Some name) (Some op) (Some args) (Some port) other n e =
    let made : record { name = name; op = op; args = args; port = port; other_keys = other } ≡ n = cc in
    ap (λ m. Some m.args) made

pub node_in-words : (d : Data) (n : WrittenNode) (p : ℕ) (a : WrittenArg) → node_in d ≡ Some n → slice_get n.args p ≡ Some a → HasWords a
node_in-words d n p a e at = of_args (items_or_none (codes "args") d) n.args p a (of_node _ _ _ _ _ n e) at

of_joined : (format : Format) (other : Bool) (nodes : Result (List WrittenNode) ℕ) (order : Result (List WrittenEdge) ℕ) (w : WrittenKernel) → joined format other nodes order ≡ Ok w → nodes ≡ Ok w.nodes
of_joined format other (Err v) order w e = let bad : Err (place.Node v) ≡ Ok w = e in absurd (cc)
of_joined format other (Ok nodes) (Err v) w e = let bad : Err (place.Order v) ≡ Ok w = e in absurd (cc)
of_joined format other (Ok nodes) (Ok order) w e =
    let made : record { format = format; nodes = nodes; order = order; other_keys = other } ≡ w = cc in
    ap (λ k. Ok k.nodes) made

of_kernel : (format : Option Format) (nodes order : Option (List Data)) (other : Bool) (w : WrittenKernel) → written_from format nodes order other ≡ Ok w → HasAllWords w
of_kernel None nodes order other w e = let bad : Err place.File ≡ Ok w = e in absurd (cc)
of_kernel (Some format) None order other w e = let bad : Err place.File ≡ Ok w = e in absurd (cc)
of_kernel (Some format) (Some nodes) None other w e = let bad : Err place.File ≡ Ok w = e in absurd (cc)
of_kernel (Some format) (Some nodes) (Some order) other w e = record {
  at = λ v p n a node arg.
      let read = all_or_first-item node_in 0 nodes w.nodes v n (of_joined format other _ _ w e) node in
      node_in-words read.0 n p a read.1 arg;
}

pub written_of-words : (d : Data) (w : WrittenKernel) → written_of d ≡ Ok w → HasAllWords w
unfolding written_of
written_of-words d w e = of_kernel (format_in d) (items_at (codes "nodes") d) (items_or_none (codes "order") d) (has_other_keys (codes "format" ∷ codes "nodes" ∷ codes "order" ∷ []) d) w e

pub written_of-all_words : (d : Data) (read : Result WrittenKernel KernelPlace) → read ≡ written_of d → IfOk read HasAllWords
written_of-all_words d (Ok w) e = written_of-words d w (sym e)
written_of-all_words d (Err p) e = tt

-- and so are those of a kernel that was read
pub read-all_words : (d : Data) (r : Result WrittenKernel (Misfit KernelPlace)) → IsReadAt (written_of d) r → IfOk r HasAllWords
read-all_words d (Ok w) read = written_of-all_words d (Ok w) (sym read)
read-all_words d (Err misfit) read = tt

-- What is over: words and results by their age.
use Rattle.std.proofs.Common.{◌≡◌, ℕ, zero, suc, ◌+◌, ◌-◌, ◌/◌, ◌%◌, ◌<◌, ◌≤◌, length, Option, None, refl, sym, ap, ◌∙◌, subst, arith, ⊎_elim}
use Rattle.std.specs.Prelude.{slice_get}
use Rattle.std.proofs.lemmas.Bool.{cases_lt, le-leb, lt-leb, cond-true, cond-false}
use Rattle.std.proofs.lemmas.List.{get_or_past}
use Rattle.cg_word.specs.declared.op.Op.{Op}
use Rattle.cg_model.specs.Work.{Image}
use Rattle.cg_model.specs.Array.{Arch, IsArch, unit}
use Rattle.cg_model.specs.Config.{Config, fields}
use Rattle.cg_model.specs.Machine.{Cycle, ago, at_cycle, word, words_in, driven, result, result_of, begun_by}
use Rattle.cg_overlap.proofs.Wires.{past_at}
use Rattle.cg_origins.specs.Walk.{word_back}

module _ (A : Arch) (C : Config) (n : ℕ) (image : Image) where
  -- a cycle has one cycle before it for each number below its own
  past_long : (c : ℕ) → length (at_cycle A C n image c).past ≡ c
  unfolding at_cycle
  past_long zero = refl
  past_long (suc c) = ap suc (past_long c)

  -- before the first cycle there is nothing
  pub before_first : (d c : ℕ) → c < d → ago (at_cycle A C n image c).past d ≡ record { words = λ r. 0; results = λ x. 0 }
  before_first d c l = let e = past_long c in get_or_past (at_cycle A C n image c).past (d - 1) (record { words = λ r. 0; results = λ x. 0 }) (omega arith)

  -- the word on a resource, d cycles before cycle c
  pub back_at : (r d c : ℕ) → d ≤ c → word_back A C n image r d c ≡ word A C n image r (c - d)
  back_at r d c l = cond-true _ (word A C n image r (c - d)) 0 (le-leb d c l)

  pub back_before : (r d c : ℕ) → c < d → word_back A C n image r d c ≡ 0
  back_before r d c l = cond-false _ (word A C n image r (c - d)) 0 (lt-leb d c l)

  -- a unit that is off has no result
  pub off_result : (x c : ℕ) → (fields C x (c % C.ii)).op ≡ None → result A C n image x c ≡ 0
  off_result x c e =
      let memory = (at_cycle A C n image c).memory in
      let on_port : ℕ → ℕ = λ p. driven (words_in A C n image c (at_cycle A C n image c).past) (slice_get (unit A x).ports p) in
      ap (λ (o : Option Op). result_of image memory (begun_by (fields C x (c % C.ii)) n (c / C.ii) on_port o)) e

  module _ (valid : IsArch A) where
    -- the cycle d cycles before cycle c
    pub ago_is : (d c : ℕ) → 0 < d → d ≤ c → ago (at_cycle A C n image c).past d ≡ record { words = λ r. word A C n image r (c - d); results = λ x. result A C n image x (c - d) }
    ago_is zero c p l = absurd (omega arith)
    ago_is (suc d) c p l =
        let e : suc (d + (c - suc d)) ≡ c = omega arith in
        let f : suc d - 1 ≡ d = omega arith in
        subst (λ (m : ℕ). ago (at_cycle A C n image m).past (suc d) ≡ record { words = λ r. word A C n image r (c - suc d); results = λ x. result A C n image x (c - suc d) }) e
        (rw f (past_at A C n image valid d (c - suc d)))

    -- the words of the cycle before
    pub before_is : (r c : ℕ) → (ago (at_cycle A C n image c).past 1).words r ≡ word_back A C n image r 1 c
    before_is r c =
        ⊎_elim (λ l. ap (λ (k : Cycle). k.words r) (before_first 1 c l) ∙ sym (back_before r 1 c l))
        (λ l. ap (λ (k : Cycle). k.words r) (ago_is 1 c (omega arith) l) ∙ sym (back_at r 1 c l))
        (cases_lt c 1)

    -- what is l cycles ago in a cycle is d + l cycles ago, d cycles later
    pub ago_later : (x d l c : ℕ) → 0 < l → d ≤ c → (ago (at_cycle A C n image (c - d)).past l).results x ≡ (ago (at_cycle A C n image c).past (d + l)).results x
    ago_later x d l c p h =
        ⊎_elim
        (λ early. ap (λ (k : Cycle). k.results x) (before_first l (c - d) early) ∙ sym (ap (λ (k : Cycle). k.results x) (before_first (d + l) c (omega arith))))
        (λ late.
        let e : c - d - l ≡ c - (d + l) = omega arith in
        ap (λ (k : Cycle). k.results x) (ago_is l (c - d) p late) ∙ ap (result A C n image x) e ∙ sym (ap (λ (k : Cycle). k.results x) (ago_is (d + l) c (omega arith) (omega arith))))
        (cases_lt (c - d) l)

-- Operations of which the first operand is only tested.
use Rattle.std.proofs.Common.{◌≡◌, ℕ, zero, suc, true, List, [], ◌∷◌, map, Some, None, nat_lt, refl, sym, ap, ◌∙◌, subst, arith}
use Rattle.std.specs.Prelude.{slice_get, slice_set}
use Rattle.std.proofs.lemmas.Bool.{true≢false}
use Rattle.cg_word.specs.declared.op.Op.{Op}
use Rattle.cg_word.specs.declared.op.Op.TheVariants.{Select, LoadIf, StoreIf, OutputIf}
use Rattle.cg_word.specs.Word.{apply_of}
use Rattle.cg_model.specs.declared.kernel.Node.{Node}
use Rattle.cg_model.specs.declared.kernel.Operand.{Operand}
use Rattle.cg_model.specs.Work.{Work, missed, sent, stored, value_by}
use Rattle.cg_simplify_draft.specs.Restates.{DoesAs}
use Rattle.cg_simplify.specs.Operands.{is_tested}

-- a list of which an item is set to another with the same image
pub set_map : (f : Operand → ℕ) (xs : List Operand) (p : ℕ) (x y : Operand) → slice_get xs p ≡ Some x → f y ≡ f x → map f (slice_set xs p y) ≡ map f xs
set_map f [] p x y has e = refl
set_map f (z ∷ zs) zero x y has e = let same : z ≡ x = cc in rw (e, same) refl
set_map f (z ∷ zs) (suc p) x y has e = ap (λ (ws : List ℕ). f z ∷ ws) (set_map f zs p x y has e)

abbrev tester : Op → ℕ → ℕ → ℕ → List ℕ → Work
tester op port turn a rest = record { op = op; port = port; turn = turn; args = a ∷ rest }

-- what is 0 where the first operand is may take its place
same_test : (op : Op) (port turn a b : ℕ) (rest : List ℕ) → is_tested op ≡ true → nat_lt 0 b ≡ nat_lt 0 a → DoesAs (tester op port turn b rest) (tester op port turn a rest)
unfolding value_by apply_of stored sent missed
same_test Select port turn a b rest t e =
    record {
      gives = λ image memory. rw e refl;
      writes = λ memory. refl;
      appends = λ at. refl;
      misses = λ room. omega arith;
      reaches = λ at r. absurd (true≢false (sym r.is));
    }
same_test LoadIf port turn a b rest t e =
    record {
      gives = λ image memory. rw e refl;
      writes = λ memory. refl;
      appends = λ at. refl;
      misses = λ room. rw e (omega arith);
      reaches = λ at r. record { is = r.is; acting = sym e ∙ r.acting; there = r.there };
    }
same_test StoreIf port turn a b rest t e =
    record {
      gives = λ image memory. refl;
      writes = λ memory. rw e refl;
      appends = λ at. refl;
      misses = λ room. rw e (omega arith);
      reaches = λ at r. record { is = r.is; acting = sym e ∙ r.acting; there = r.there };
    }
same_test OutputIf port turn a b rest t e =
    record {
      gives = λ image memory. refl;
      writes = λ memory. refl;
      appends = λ at. rw e refl;
      misses = λ room. omega arith;
      reaches = λ at r. absurd (true≢false (sym r.is));
    }
same_test _ port turn a b rest t e = absurd (cc)

-- a node of which operand 0 is set
pub tests_alike : (f : Operand → ℕ) (n : Node) (p turn : ℕ) (x y : Operand) → p ≡ 0 → is_tested n.op ≡ true → slice_get n.operands p ≡ Some x → nat_lt 0 (f x) ≡ nat_lt 0 (f y)
    → DoesAs (record { op = n.op; port = n.port; turn = turn; args = map f (slice_set n.operands p y) }) (record { op = n.op; port = n.port; turn = turn; args = map f n.operands })
tests_alike f n p turn x y first tested has e =
    subst (λ (q : ℕ). DoesAs (record { op = n.op; port = n.port; turn = turn; args = map f (slice_set n.operands q y) }) (record { op = n.op; port = n.port; turn = turn; args = map f n.operands })) (sym first)
    (by n.operands (subst (λ (q : ℕ). slice_get n.operands q ≡ Some x) first has))
  where
    by : (xs : List Operand) → slice_get xs 0 ≡ Some x → DoesAs (record { op = n.op; port = n.port; turn = turn; args = map f (slice_set xs 0 y) }) (record { op = n.op; port = n.port; turn = turn; args = map f xs })
    by [] h = let bad : None ≡ Some x = h in absurd (cc)
    by (z ∷ zs) h = let same : z ≡ x = cc in same_test n.op n.port turn (f z) (f y) (map f zs) tested (sym e ∙ ap (λ (o : Operand). nat_lt 0 (f o)) (sym same))

-- Bytes spell a loop body or have a fault, and only one.
use Rattle.std.proofs.Common.{◌≡◌, ◌≢◌, ◌⊎◌, inl, inr, ℕ, List, [], ◌∷◌, ◌++◌, length, Option, Some, None, Result, Ok, Err, refl, sym, ◌∙◌, ap}
use Rattle.std.specs.Option.{option_map, option_or}
use Rattle.cg_tokens.specs.Table.{run}
use Rattle.cg_tokens.specs.Tokens.{Placed, tokens_of, place_of}
use Rattle.cg_loop_syntax.specs.declared.fault.LoopFault.{LoopFault}
use Rattle.cg_loop_syntax.specs.declared.fault.LoopFault.TheVariants as fault
use Rattle.cg_loop_syntax.specs.Loop.{Body}
use Rattle.cg_loop_syntax.specs.Uses.{Use, fault_of, first_where, is_unknown, is_repeated, is_misassigned, is_misplaced, is_bad_port}
use Rattle.cg_loop_text_spec.specs.Grammar.{Text, IsFile}
use Rattle.cg_loop_text_spec.specs.Meaning.{text_body, text_uses}
use Rattle.cg_loop_text_spec.specs.Rules.{rule, start}
use Rattle.cg_loop_text_spec.proofs.OneText.{one_text}
use Rattle.cg_loop_text_spec.proofs.Whole.{solid, whole_file, rest_ends, whole_fault, no_file}
use Rattle.cg_loop_reader.specs.Doubled.{double}
use Rattle.cg_loop_reader.specs.Left.{last_token}
use Rattle.cg_loop_reader.specs.Answer.{IsTree, Spells, FaultIn, IsUseFault, IsFault}
use Rattle.cg_command_files.specs.Loop.{IsReading}

-- ---- only one

same_tree : (bytes : List ℕ) (s t : Text) → IsTree bytes s → IsTree bytes t → s ≡ t
same_tree bytes s t a b = one_text s t a.is b.is (sym a.tokens ∙ b.tokens)

tree_file : (bytes : List ℕ) (t : Text) → IsTree bytes t → IsFile (tokens_of double bytes)
tree_file bytes t a = (t, a.is, a.tokens)

pub one_body : (bytes : List ℕ) (P Q : Body) → Spells bytes P → Spells bytes Q → P ≡ Q
one_body bytes P Q p q = p.body ∙ ap text_body (same_tree bytes p.text q.text p.tree q.tree) ∙ sym q.body

-- a fault of the tokens, or of names and ports
abbrev IsSorted : List ℕ → LoopFault → Type 0
IsSorted bytes e = ((place : ℕ) × (e ≡ fault.Text place) × FaultIn bytes place) ⊎ IsUseFault e bytes

sorted : (bytes : List ℕ) (e : LoopFault) → e ≢ fault.Memory → IsFault e bytes → IsSorted bytes e
sorted bytes fault.Memory known f = absurd (known refl)
sorted bytes (fault.Text place) known f = inl (place, refl, f)
sorted bytes (fault.UnknownName place) known f = inr f
sorted bytes (fault.RepeatedName place) known f = inr f
sorted bytes (fault.CarryAssign place) known f = inr f
sorted bytes (fault.BadArray place) known f = inr f
sorted bytes (fault.BadPort place) known f = inr f
sorted bytes (fault.TooLarge x) known f = absurd f

unspelled : (bytes : List ℕ) (P : Body) (e : LoopFault) → Spells bytes P → IsSorted bytes e → ⊥
unspelled bytes P e s (inl (place, is, f)) = no_file (tokens_of double bytes) f.rest f.fault (tree_file bytes s.text s.tree)
unspelled bytes P e s (inr f) =
    let same : None ≡ Some e = sym s.ruled ∙ ap (λ t. fault_of (text_uses t)) (same_tree bytes s.text f.text s.tree f.tree) ∙ f.fault in cc

pub not_both : (bytes : List ℕ) (P : Body) (e : LoopFault) → e ≢ fault.Memory → Spells bytes P → IsFault e bytes → ⊥
not_both bytes P e known s f = unspelled bytes P e s (sorted bytes e known f)

-- ---- some

-- the faults of names and ports
abbrev IsOfUse : LoopFault → Type 0
IsOfUse fault.Memory = ⊥
IsOfUse (fault.Text place) = ⊥
IsOfUse (fault.TooLarge x) = ⊥
IsOfUse _ = Unit {0}

abbrev AreOfUse : Option LoopFault → Type 0
AreOfUse None = Unit {0}
AreOfUse (Some e) = IsOfUse e

first_of_use : (a b c d e : Option ℕ) → AreOfUse
    (option_or (option_map fault.UnknownName a) (option_or (option_map fault.RepeatedName b) (option_or (option_map fault.CarryAssign c) (option_or (option_map fault.BadArray d) (option_map fault.BadPort e)))))
first_of_use (Some n) b c d e = tt
first_of_use None (Some n) c d e = tt
first_of_use None None (Some n) d e = tt
first_of_use None None None (Some n) e = tt
first_of_use None None None None (Some n) = tt
first_of_use None None None None None = tt

of_use : (us : List Use) → AreOfUse (fault_of us)
of_use us = first_of_use (first_where is_unknown [] us) (first_where is_repeated [] us) (first_where is_misassigned [] us) (first_where is_misplaced [] us) (first_where is_bad_port [] us)

-- what the bytes give, and that it isn't running out of memory
abbrev IsGiven : List ℕ → Result Body LoopFault → Type 0
IsGiven bytes r = (r ≢ Err fault.Memory) × IsReading bytes r

use_given : (bytes : List ℕ) (e : LoopFault) → IsOfUse e → IsUseFault e bytes → IsGiven bytes (Err e)
use_given bytes fault.Memory h f = absurd h
use_given bytes (fault.Text place) h f = absurd h
use_given bytes (fault.UnknownName place) h f = (λ s. cc, f)
use_given bytes (fault.RepeatedName place) h f = (λ s. cc, f)
use_given bytes (fault.CarryAssign place) h f = (λ s. cc, f)
use_given bytes (fault.BadArray place) h f = (λ s. cc, f)
use_given bytes (fault.BadPort place) h f = (λ s. cc, f)
use_given bytes (fault.TooLarge x) h f = absurd h

tree_given : (bytes : List ℕ) (t : Text) (o : Option LoopFault) → IsTree bytes t → AreOfUse o → fault_of (text_uses t) ≡ o → (r : Result Body LoopFault) × IsGiven bytes r
tree_given bytes t None a h e = (Ok (text_body t), (λ s. cc, record { text = t; tree = a; body = refl; ruled = e }))
tree_given bytes t (Some f) a h e = (Err f, use_given bytes f h (record { text = t; tree = a; fault = e }))

run_given : (bytes : List ℕ) (o : Option (List Placed)) → run rule start (tokens_of double bytes ++ last_token bytes ∷ []) ≡ o → (r : Result Body LoopFault) × IsGiven bytes r
run_given bytes None e =
    let f = whole_file (tokens_of double bytes) (last_token bytes) refl e in
    tree_given bytes f.0 (fault_of (text_uses f.0)) (record { is = f.1; tokens = f.2 }) (of_use (text_uses f.0)) refl
run_given bytes (Some r) e =
    let tokens = tokens_of double bytes in
    let w = rest_ends tokens (last_token bytes) refl (solid double bytes) r e in
    let at = place_of (length bytes) w.0 in
    let f : FaultIn bytes at = record { rest = w.0; fault = whole_fault tokens w.0 (last_token bytes) refl (solid double bytes) (e ∙ ap Some w.1); at = refl } in
    (Err (fault.Text at), (λ s. cc, f))

pub some_reading : (bytes : List ℕ) → (r : Result Body LoopFault) × IsGiven bytes r
some_reading bytes = run_given bytes (run rule start (tokens_of double bytes ++ last_token bytes ∷ [])) refl

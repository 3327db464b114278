-- What bytes spell is one thing, or one thing is wrong with them.
use Rattle.std.proofs.Common.{◌≡◌, ℕ, true, Bool, List, [], ◌∷◌, ◌++◌, length, Option, Result, Ok, Err, Some, None, refl, sym, ap, ap₂, ◌∙◌}
use Rattle.std.specs.Prelude.{◌≢◌, is_none, IfOk, IfErr}
use Rattle.std.specs.List.{list_all, AllPass}
use Rattle.std.specs.Option.{option_map, option_or}
use Rattle.cg_loop_syntax.specs.declared.fault.Excess.{Excess}
use Rattle.std.proofs.lemmas.Bool.{and_parts}
use Rattle.std.proofs.lemmas.List.{append_cancel_right}
use Rattle.std.proofs.lemmas.List.Elements.{All-nil, All-cons}
use Rattle.cg_tokens.specs.Table.{run}
use Rattle.cg_tokens.specs.Tokens.{tokens_of, tokens_at, place_of}
use Rattle.cg_loop_syntax.specs.declared.fault.LoopFault.{LoopFault}
use Rattle.cg_loop_syntax.specs.declared.fault.LoopFault.TheVariants.{Memory, Text, UnknownName, RepeatedName, CarryAssign, BadArray, BadPort, TooLarge}
use Rattle.cg_loop_syntax.specs.declared.body.LoopBody.{LoopBody}
use Rattle.cg_loop_syntax.specs.Loop.{Body}
use Rattle.cg_loop_syntax.specs.Body.{body_of}
use Rattle.cg_loop_syntax.specs.Grouped.{grouped}
use Rattle.cg_loop_syntax.specs.Uses.{Use, fault_of, first_where, is_unknown, is_repeated, is_misassigned, is_misplaced, is_bad_port, is_ruled}
use Rattle.cg_loop_syntax.specs.Well.{IsWell, is_well_stmt, is_well_decl}
use Rattle.cg_loop_text_spec.specs.Grammar as grammar
use Rattle.cg_loop_text_spec.specs.Grammar.{IsText, IsFile, text_tokens}
use Rattle.cg_loop_text_spec.specs.Meaning.{text_body, text_uses}
use Rattle.cg_loop_text_spec.specs.Rules.{rule, start}
use Rattle.cg_loop_text_spec.proofs.OneText.{one_text}
use Rattle.cg_loop_text_spec.proofs.Uses.{uses_of, fault_places}
use Rattle.cg_loop_text_spec.proofs.Whole.{whole_fault, solid, no_file, one_fault}
use Rattle.cg_loop_reader.specs.Judged.{IsFaultOf}
use Rattle.cg_loop_reader.specs.declared.read.Parts.{Parts}
use Rattle.cg_loop_reader.specs.declared.reader.Reader.{Reader}
use Rattle.cg_loop_reader.specs.Doubled.{double}
use Rattle.cg_loop_reader.specs.Left.{left, noted, last_token}
use Rattle.cg_loop_reader.specs.Whole.{FindsText, ArePartsOf}
use Rattle.cg_loop_reader.specs.Answer.{IsTree, Spells, IsReadTo, FaultIn, IsUseFault, IsFault, Gives, GivesFault}

-- ---- from the reader to the bytes

-- a whole text that was read from the first token on is the text of the bytes
pub read_to : (parts : Parts) (old new : Reader) (bytes : List ℕ) → left old ≡ tokens_of double bytes ++ last_token bytes ∷ [] → noted old ≡ [] → new.bytes.now ≡ bytes → FindsText parts old new → IsReadTo parts bytes (noted new)
read_to parts old new bytes all none same x =
    let end : left new ≡ last_token bytes ∷ [] = ap₂ (λ ts b. ts ++ last_token b ∷ []) x.none same in
    record {
      text = x.tree;
      tree = record { is = x.is; tokens = append_cancel_right (tokens_of double bytes) (text_tokens x.tree) (last_token bytes ∷ []) (sym all ∙ x.spelled ∙ ap (λ v. text_tokens x.tree ++ v) end) };
      uses = x.noted ∙ ap (λ v. v ++ text_uses x.tree) none;
      stand = x.stand;
    }

pub fault_found : (old new : Reader) (bytes : List ℕ) (place : ℕ) → left old ≡ tokens_of double bytes ++ last_token bytes ∷ [] → new.bytes.now ≡ bytes → run rule start (left old) ≡ Some (left new) → place ≡ place_of (length new.bytes.now) (tokens_at double new.bytes.now new.at) → FaultIn bytes place
fault_found old new bytes place all same stops here = record {
  rest = tokens_at double new.bytes.now new.at;
  fault = whole_fault (tokens_of double bytes) (tokens_at double new.bytes.now new.at) (last_token bytes) refl (solid double bytes)
      (ap (run rule start) (sym all) ∙ stops ∙ ap (λ b. Some (tokens_at double new.bytes.now new.at ++ last_token b ∷ [])) same);
  at = here ∙ ap (λ b. place_of (length b) (tokens_at double new.bytes.now new.at)) same;
}

-- ---- the body of the parts

all_pass : {X : Type 0} (test : X → Bool) (xs : List X) → list_all test xs ≡ true → AllPass test xs
all_pass test [] h = All-nil (λ x. test x ≡ true)
all_pass test (x ∷ xs) h = let both = and_parts (test x) (list_all test xs) h in All-cons (λ y. test y ≡ true) x xs both.0 (all_pass test xs both.1)

same_body : (parts : Parts) (text : grammar.Text) → ArePartsOf text parts → grouped parts.decls.items parts.stmts.items ≡ text_body text
same_body parts text p = ap₂ (λ ds ss. record { decls = ds; stmts = ss }) p.decls p.stmts

ruled_of : (text : grammar.Text) → IsText text → fault_of (text_uses text) ≡ None → is_ruled (text_body text) ≡ true
ruled_of text is n = ap (λ us. is_none (fault_of us)) (sym (uses_of text is)) ∙ fault_places (text_uses text) ∙ ap is_none n

pub parts_well : (parts : Parts) (bytes : List ℕ) (us : List Use) → IsReadTo parts bytes us → fault_of us ≡ None → IsWell parts.decls.items parts.stmts.items
parts_well parts bytes us r n = record {
  named = all_pass is_well_decl parts.decls.items r.stand.decls_well;
  well = all_pass is_well_stmt parts.stmts.items r.stand.stmts_well;
  ruled = ap is_ruled (same_body parts r.text r.stand) ∙ ruled_of r.text r.tree.is (ap fault_of (sym r.uses) ∙ n);
}

pub parts_spell : (parts : Parts) (bytes : List ℕ) (us : List Use) → IsReadTo parts bytes us → fault_of us ≡ None → Spells bytes (grouped parts.decls.items parts.stmts.items)
parts_spell parts bytes us r n = record { text = r.text; tree = r.tree; body = same_body parts r.text r.stand; ruled = ap fault_of (sym r.uses) ∙ n }

use_fault : (e : LoopFault) (parts : Parts) (bytes : List ℕ) (us : List Use) → IsReadTo parts bytes us → fault_of us ≡ Some e → IsUseFault e bytes
use_fault e parts bytes us r f = record { text = r.text; tree = r.tree; fault = ap fault_of (sym r.uses) ∙ f }

-- the faults of uses are Q2 to Q6
no_other : (a b c d e : Option ℕ) (place : ℕ) → option_or (option_map UnknownName a) (option_or (option_map RepeatedName b) (option_or (option_map CarryAssign c) (option_or (option_map BadArray d) (option_map BadPort e)))) ≡ Some (Text place) → ⊥
no_other (Some x) b c d e place h = cc
no_other None (Some x) c d e place h = cc
no_other None None (Some x) d e place h = cc
no_other None None None (Some x) e place h = cc
no_other None None None None (Some x) place h = cc
no_other None None None None None place h = cc

no_excess : (a b c d e : Option ℕ) (x : Excess) → option_or (option_map UnknownName a) (option_or (option_map RepeatedName b) (option_or (option_map CarryAssign c) (option_or (option_map BadArray d) (option_map BadPort e)))) ≡ Some (TooLarge x) → ⊥
no_excess (Some y) b c d e x h = cc
no_excess None (Some y) c d e x h = cc
no_excess None None (Some y) d e x h = cc
no_excess None None None (Some y) e x h = cc
no_excess None None None None (Some y) x h = cc
no_excess None None None None None x h = cc

pub judged_fault : (e : LoopFault) (parts : Parts) (bytes : List ℕ) (us : List Use) → IsReadTo parts bytes us → IsFaultOf e (fault_of us) → IsFault e bytes
judged_fault Memory parts bytes us r f = tt
judged_fault (Text place) parts bytes us r f = absurd (no_other (first_where is_unknown [] us) (first_where is_repeated [] us) (first_where is_misassigned [] us) (first_where is_misplaced [] us) (first_where is_bad_port [] us) place f)
judged_fault (UnknownName place) parts bytes us r f = use_fault (UnknownName place) parts bytes us r f
judged_fault (RepeatedName place) parts bytes us r f = use_fault (RepeatedName place) parts bytes us r f
judged_fault (CarryAssign place) parts bytes us r f = use_fault (CarryAssign place) parts bytes us r f
judged_fault (BadArray place) parts bytes us r f = use_fault (BadArray place) parts bytes us r f
judged_fault (BadPort place) parts bytes us r f = use_fault (BadPort place) parts bytes us r f
judged_fault (TooLarge x) parts bytes us r f = absurd (no_excess (first_where is_unknown [] us) (first_where is_repeated [] us) (first_where is_misassigned [] us) (first_where is_misplaced [] us) (first_where is_bad_port [] us) x f)

-- ---- there is one answer

-- bytes have one tree
pub one_tree : (bytes : List ℕ) (s t : grammar.Text) → IsTree bytes s → IsTree bytes t → s ≡ t
one_tree bytes s t a b = one_text s t a.is b.is (sym a.tokens ∙ b.tokens)

pub one_body : (bytes : List ℕ) (P Q : Body) → Spells bytes P → Spells bytes Q → P ≡ Q
one_body bytes P Q a b = a.body ∙ ap text_body (one_tree bytes a.text b.text a.tree b.tree) ∙ sym b.body

-- what has a tree has no fault of its tokens
pub no_text_fault : (bytes : List ℕ) (text : grammar.Text) (place : ℕ) → IsTree bytes text → FaultIn bytes place → ⊥
no_text_fault bytes text place t f = no_file (tokens_of double bytes) f.rest f.fault (text, t.is, t.tokens)

pub one_place : (bytes : List ℕ) (p q : ℕ) → FaultIn bytes p → FaultIn bytes q → p ≡ q
one_place bytes p q a b = a.at ∙ ap (place_of (length bytes)) (one_fault (tokens_of double bytes) a.rest b.rest a.fault b.fault) ∙ sym b.at

pub one_use_fault : (bytes : List ℕ) (e f : LoopFault) → IsUseFault e bytes → IsUseFault f bytes → e ≡ f
one_use_fault bytes e f a b =
    let same : Some e ≡ Some f = sym a.fault ∙ ap (λ t. fault_of (text_uses t)) (one_tree bytes a.text b.text a.tree b.tree) ∙ b.fault in
    let inside : ◌≡◌ {A = LoopFault} e f = cc in inside

pub no_use_fault : (bytes : List ℕ) (P : Body) (e : LoopFault) → Spells bytes P → IsUseFault e bytes → ⊥
no_use_fault bytes P e s f =
    let both : None ≡ Some e = sym s.ruled ∙ ap (λ t. fault_of (text_uses t)) (one_tree bytes s.text f.text s.tree f.tree) ∙ f.fault in cc

-- a fault of uses is the only one
same_use : (bytes : List ℕ) (f e : LoopFault) → IsUseFault f bytes → IsFault e bytes → e ≢ Memory → f ≡ e
same_use bytes f Memory a b n = absurd (n refl)
same_use bytes f (Text place) a b n = absurd (no_text_fault bytes a.text place a.tree b)
same_use bytes f (UnknownName place) a b n = one_use_fault bytes f (UnknownName place) a b
same_use bytes f (RepeatedName place) a b n = one_use_fault bytes f (RepeatedName place) a b
same_use bytes f (CarryAssign place) a b n = one_use_fault bytes f (CarryAssign place) a b
same_use bytes f (BadArray place) a b n = one_use_fault bytes f (BadArray place) a b
same_use bytes f (BadPort place) a b n = one_use_fault bytes f (BadPort place) a b
same_use bytes f (TooLarge x) a b n = absurd b

-- so is one of the tokens
same_text_fault : (bytes : List ℕ) (place : ℕ) (e : LoopFault) → FaultIn bytes place → IsFault e bytes → e ≢ Memory → Text place ≡ e
same_text_fault bytes place Memory a b n = absurd (n refl)
same_text_fault bytes place (Text q) a b n = ap Text (one_place bytes place q a b)
same_text_fault bytes place (UnknownName q) a b n = absurd (no_text_fault bytes b.text place b.tree a)
same_text_fault bytes place (RepeatedName q) a b n = absurd (no_text_fault bytes b.text place b.tree a)
same_text_fault bytes place (CarryAssign q) a b n = absurd (no_text_fault bytes b.text place b.tree a)
same_text_fault bytes place (BadArray q) a b n = absurd (no_text_fault bytes b.text place b.tree a)
same_text_fault bytes place (BadPort q) a b n = absurd (no_text_fault bytes b.text place b.tree a)
same_text_fault bytes place (TooLarge x) a b n = absurd b

-- where a body is spelled, no fault applies
pub no_fault : (bytes : List ℕ) (P : Body) (e : LoopFault) → Spells bytes P → IsFault e bytes → e ≡ Memory
no_fault bytes P Memory s f = refl
no_fault bytes P (Text place) s f = absurd (no_text_fault bytes s.text place s.tree f)
no_fault bytes P (UnknownName place) s f = absurd (no_use_fault bytes P (UnknownName place) s f)
no_fault bytes P (RepeatedName place) s f = absurd (no_use_fault bytes P (RepeatedName place) s f)
no_fault bytes P (CarryAssign place) s f = absurd (no_use_fault bytes P (CarryAssign place) s f)
no_fault bytes P (BadArray place) s f = absurd (no_use_fault bytes P (BadArray place) s f)
no_fault bytes P (BadPort place) s f = absurd (no_use_fault bytes P (BadPort place) s f)
no_fault bytes P (TooLarge x) s f = absurd f

-- two faults that apply are one
pub one_fault_of : (bytes : List ℕ) (f e : LoopFault) → f ≢ Memory → IsFault f bytes → IsFault e bytes → e ≢ Memory → f ≡ e
one_fault_of bytes Memory e m a b n = absurd (m refl)
one_fault_of bytes (Text place) e m a b n = same_text_fault bytes place e a b n
one_fault_of bytes (UnknownName place) e m a b n = same_use bytes (UnknownName place) e a b n
one_fault_of bytes (RepeatedName place) e m a b n = same_use bytes (RepeatedName place) e a b n
one_fault_of bytes (CarryAssign place) e m a b n = same_use bytes (CarryAssign place) e a b n
one_fault_of bytes (BadArray place) e m a b n = same_use bytes (BadArray place) e a b n
one_fault_of bytes (BadPort place) e m a b n = same_use bytes (BadPort place) e a b n
one_fault_of bytes (TooLarge x) e m a b n = absurd a

-- ---- from two clauses the others

pub only_of : (bytes : List ℕ) (r : Result LoopBody LoopFault) → IfOk r (λ b. Spells bytes (body_of b)) → IfErr r (λ e. IsFault e bytes) → (P : Body) → Spells bytes P → Gives P r
only_of bytes (Ok b) f g P s = one_body bytes (body_of b) P f s
only_of bytes (Err e) f g P s = no_fault bytes P e s g

pub exact_of : (bytes : List ℕ) (r : Result LoopBody LoopFault) → IfOk r (λ b. Spells bytes (body_of b)) → IfErr r (λ e. IsFault e bytes) → (e : LoopFault) → e ≢ Memory → IsFault e bytes → GivesFault e r
exact_of bytes (Ok b) f g e n h = n (no_fault bytes (body_of b) e f h)
exact_of bytes (Err Memory) f g e n h = tt
exact_of bytes (Err (Text place)) f g e n h = same_text_fault bytes place e g h n
exact_of bytes (Err (UnknownName place)) f g e n h = same_use bytes (UnknownName place) e g h n
exact_of bytes (Err (RepeatedName place)) f g e n h = same_use bytes (RepeatedName place) e g h n
exact_of bytes (Err (CarryAssign place)) f g e n h = same_use bytes (CarryAssign place) e g h n
exact_of bytes (Err (BadArray place)) f g e n h = same_use bytes (BadArray place) e g h n
exact_of bytes (Err (BadPort place)) f g e n h = same_use bytes (BadPort place) e g h n
exact_of bytes (Err (TooLarge x)) f g e n h = absurd g

-- An output, and an assignment of a word.
use Rattle.std.proofs.Common.{◌≡◌, ℕ, ◌<◌, ◌==◌, if◌then◌else◌, List, [], ◌∷◌, ◌++◌, length, Some, append-nil, refl, sym, subst, true}
use Rattle.cg_c_check.specs.Program.{Expr, Output}
use Rattle.cg_c_values.specs.Values.{Words}
use Rattle.cg_c_meaning.specs.Meaning.{Context, set_word, stmt}
use Rattle.cg_c_meaning.specs.Typed.{AreApart, IsTypedExpr, inputs}
use Rattle.cg_c_turn.specs.Draft.{Draft, Effect, Send, assigned_in}
use Rattle.cg_c_turn.specs.Stands.{TheWord, Agrees, IsFormed, Performs, Translates}
use Rattle.cg_c_turn.specs.Translated.{IsTranslated}
use Rattle.cg_c_turn.specs.Words.{with_words}
use Rattle.cg_c_turn.proofs.Doing.{Step}
use Rattle.cg_c_turn.proofs.Evaluating.{value_then}
use Rattle.cg_c_turn.proofs.Single.{sends, sets, with_effect}
use Rattle.cg_c_turn.proofs.Sent.{sends_nothing, sends_one, sends_then}

pub without_ports : {a b : Draft} {es : List Effect} {G : Words → Type 0} {run : Context → Step} (p : List ℕ) → Performs a b es G run (p ++ []) → Performs a b es G run p
without_ports {a = a} {b = b} {es = es} {G = G} {run = run} p h = subst (λ (q : List ℕ). Performs a b es G run q) (append-nil p) h

pub send_is : {a b : Draft} {es : List Effect} (d : Draft) (port v : ℕ) (e : Expr) → d ≡ with_effect b (Send b.guard port v) → IsTypedExpr a.arrays true e → AreApart (inputs e) → Translates a b es e TheWord v → IsTranslated a d (λ x. stmt x (Output port e)) (inputs e) (port ∷ [])
unfolding stmt
send_is {a = a} {b = b} {es = es} d port v e is typed apart one =
    subst (λ (z : Draft). IsTranslated a z (λ x. stmt x (Output port e)) (inputs e) (port ∷ [])) (sym is)
    (record {
      added = es ++ Send b.guard port v ∷ [];
      performs = without_ports (inputs e) (value_then a.arrays true typed one (sends b port v one.formed one.within) (subst (λ (q : List ℕ). AreApart q) (sym (append-nil (inputs e))) apart));
      initial = one.initial;
      sends = sends_then a b (with_effect b (Send b.guard port v)) [] (port ∷ []) (sends_nothing a b es one.grows.effects one.silent) (sends_one b (with_effect b (Send b.guard port v)) b.guard port v refl);
    })

pub set_is : (d e : Draft) (number v : ℕ) → IsFormed d → v < length d.values → e ≡ with_words d e.words → ((n : ℕ) → assigned_in e n ≡ (if n == number then Some v else assigned_in d n)) → (w : ℕ) → Performs d e [] (λ E. Agrees TheWord (E v) w) (λ x. set_word number w) []
set_is d e number v formed within same assigned w =
    subst (λ (z : Draft). Performs d z [] (λ E. Agrees TheWord (E v) w) (λ x. set_word number w) []) (sym same) (sets d e.words number v formed within assigned w)

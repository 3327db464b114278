-- The ports to which effects send.
use Rattle.std.proofs.Common.{◌≡◌, ℕ, List, [], ◌∷◌, ◌++◌, Contains, Option, refl, sym, ap, ◌∙◌, subst, arith, inl, inr, append-nil, append_assoc}
use Rattle.std.proofs.lemmas.List.Elements.{Contains-append_cases, Contains-append_left, Contains-append_right}
use Rattle.cg_c_meaning.specs.Typed.{AreApart}
use Rattle.cg_c_turn.specs.Draft.{Draft, Effect, Load, Store, Send}
use Rattle.cg_c_turn.specs.Stands.{AreBelow, IsAmong, Sends, sent_ports}

-- ---- effects one after another

pub sent_append : (es fs : List Effect) → sent_ports (es ++ fs) ≡ sent_ports es ++ sent_ports fs
sent_append [] fs = refl
sent_append (Load guard array address value place ∷ es) fs = sent_append es fs
sent_append (Store guard array address word place ∷ es) fs = sent_append es fs
sent_append (Send guard port word ∷ es) fs = ap (λ (z : List ℕ). port ∷ z) (sent_append es fs)

pub sent_silent : (es fs : List Effect) → sent_ports es ≡ [] → sent_ports fs ≡ [] → sent_ports (es ++ fs) ≡ []
sent_silent es fs h k = sent_append es fs ∙ ap (λ (z : List ℕ). z ++ sent_ports fs) h ∙ k

-- ---- numbers among others

among_none : (ps : List ℕ) → IsAmong [] ps
among_none [] = refl
among_none (p ∷ ps) = inl (among_none ps)

among_append : (qs ps rs ss : List ℕ) → IsAmong qs ps → IsAmong rs ss → IsAmong (qs ++ rs) (ps ++ ss)
among_append qs [] rs ss h k = subst (λ (z : List ℕ). IsAmong (z ++ rs) ss) (sym h) k
among_append qs (p ∷ ps) rs ss (inl h) k = inl (among_append qs ps rs ss h k)
among_append qs (p ∷ ps) rs ss (inr (rest, e, h)) k = inr (rest ++ rs, ap (λ (z : List ℕ). z ++ rs) e, among_append rest ps rs ss h k)

pub among_contains : (qs ps : List ℕ) (x : ℕ) → IsAmong qs ps → Contains qs x → Contains ps x
among_contains qs [] x h c = absurd (let k : Contains [] x = subst (λ (z : List ℕ). Contains z x) h c in omega (arith, k.1))
among_contains qs (p ∷ ps) x (inl h) c = Contains-append_right (p ∷ []) ps x (among_contains qs ps x h c)
among_contains qs (p ∷ ps) x (inr (rest, e, h)) c =
    elim (Contains-append_cases (p ∷ []) rest x (subst (λ (z : List ℕ). Contains z x) e c)) [
      | inl a ↦ Contains-append_left (p ∷ []) ps x a
      | inr b ↦ Contains-append_right (p ∷ []) ps x (among_contains rest ps x h b)
    ]

pub apart_among : (qs ps : List ℕ) → IsAmong qs ps → AreApart ps → AreApart qs
apart_among qs [] h apart = subst (λ (z : List ℕ). AreApart z) (sym h) tt
apart_among qs (p ∷ ps) (inl h) apart = apart_among qs ps h apart.1
apart_among qs (p ∷ ps) (inr (rest, e, h)) apart =
    subst (λ (z : List ℕ). AreApart z) (sym e) (λ c. apart.0 (among_contains rest ps p h c), apart_among rest ps h apart.1)

-- ---- drafts one after another

-- effects that send nothing
pub sends_nothing : (a b : Draft) (es : List Effect) → b.effects ≡ a.effects ++ es → sent_ports es ≡ [] → Sends a b []
sends_nothing a b es is silent =
    record { ports = []; sent = ap sent_ports is ∙ sent_append a.effects es ∙ ap (λ (z : List ℕ). sent_ports a.effects ++ z) silent; among = refl }

-- no effects
pub sends_idle : (a : Draft) (outs : List ℕ) → Sends a a outs
sends_idle a outs = record { ports = []; sent = sym (append-nil (sent_ports a.effects)); among = among_none outs }

pub sends_one : (a b : Draft) (guard : Option ℕ) (port word : ℕ) → b.effects ≡ a.effects ++ Send guard port word ∷ [] → Sends a b (port ∷ [])
sends_one a b guard port word is =
    record { ports = port ∷ []; sent = ap sent_ports is ∙ sent_append a.effects (Send guard port word ∷ []); among = inr ([], refl, refl) }

pub sends_then : (a b c : Draft) (p q : List ℕ) → Sends a b p → Sends b c q → Sends a c (p ++ q)
sends_then a b c p q h k =
    record {
      ports = h.ports ++ k.ports;
      sent = k.sent ∙ ap (λ (z : List ℕ). z ++ k.ports) h.sent ∙ append_assoc (sent_ports a.effects) h.ports k.ports;
      among = among_append h.ports p k.ports q h.among k.among;
    }

-- between drafts with the same effects
pub sends_moved : (a b c d : Draft) (p : List ℕ) → b.effects ≡ a.effects → Sends b c p → d.effects ≡ c.effects → Sends a d p
sends_moved a b c d p before h after =
    record { ports = h.ports; sent = ap sent_ports after ∙ h.sent ∙ ap (λ z. sent_ports z ++ h.ports) before; among = h.among }

-- ---- from the beginning on

pub sent_apart : (a b : Draft) (outs : List ℕ) → a.effects ≡ [] → Sends a b outs → AreApart outs → AreBelow 16 outs → AreApart (sent_ports b.effects) × AreBelow 16 (sent_ports b.effects)
sent_apart a b outs none h apart below =
    let is : sent_ports b.effects ≡ h.ports = h.sent ∙ ap (λ z. sent_ports z ++ h.ports) none in (
      subst (λ (z : List ℕ). AreApart z) (sym is) (apart_among h.ports outs h.among apart),
      subst (λ (z : List ℕ). AreBelow 16 z) (sym is) (λ v c. below v (among_contains h.ports outs v h.among c)),
    )

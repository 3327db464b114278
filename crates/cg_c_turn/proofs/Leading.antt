-- What effects lead to: more where more is claimed of the end, and one part of them after another.
use Rattle.std.proofs.Common.{if◌then◌else◌, List, [], ◌∷◌, ◌++◌}
use Rattle.cg_c_check.specs.declared.program.Array.{Array}
use Rattle.cg_c_values.specs.Values.{Words, holds}
use Rattle.cg_c_turn.specs.Draft.{Effect, Load, Store, Send}
use Rattle.cg_c_turn.specs.Leads.{Outcome, Leads, stored_at, sent_to}

pub leads_weaker : (arrays : List Array) (E : Words) (es : List Effect) (m : Outcome) (P Q : Outcome → Type 0) → ((n : Outcome) → P n → Q n) → Leads arrays E es m P → Leads arrays E es m Q
unfolding Leads
leads_weaker arrays E [] m P Q weaker leads = weaker m leads
leads_weaker arrays E (Load guard array address value place ∷ es) m P Q weaker leads =
    (leads.0, λ found. leads_weaker arrays E es m P Q weaker (leads.1 found))
leads_weaker arrays E (Store guard array address word place ∷ es) m P Q weaker leads =
    (leads.0, leads_weaker arrays E es (if holds E guard then stored_at m (E address) (E word) else m) P Q weaker leads.1)
leads_weaker arrays E (Send guard port word ∷ es) m P Q weaker leads =
    leads_weaker arrays E es (if holds E guard then sent_to m port (E word) else m) P Q weaker leads

pub leads_append : (arrays : List Array) (E : Words) (es fs : List Effect) (m : Outcome) (Q : Outcome → Type 0) → Leads arrays E es m (λ n. Leads arrays E fs n Q) → Leads arrays E (es ++ fs) m Q
unfolding Leads
leads_append arrays E [] fs m Q leads = leads
leads_append arrays E (Load guard array address value place ∷ es) fs m Q leads =
    (leads.0, λ found. leads_append arrays E es fs m Q (leads.1 found))
leads_append arrays E (Store guard array address word place ∷ es) fs m Q leads =
    (leads.0, leads_append arrays E es fs (if holds E guard then stored_at m (E address) (E word) else m) Q leads.1)
leads_append arrays E (Send guard port word ∷ es) fs m Q leads =
    leads_append arrays E es fs (if holds E guard then sent_to m port (E word) else m) Q leads

pub leads_split : (arrays : List Array) (E : Words) (es fs : List Effect) (m : Outcome) (Q : Outcome → Type 0) → Leads arrays E (es ++ fs) m Q → Leads arrays E es m (λ n. Leads arrays E fs n Q)
unfolding Leads
leads_split arrays E [] fs m Q leads = leads
leads_split arrays E (Load guard array address value place ∷ es) fs m Q leads =
    (leads.0, λ found. leads_split arrays E es fs m Q (leads.1 found))
leads_split arrays E (Store guard array address word place ∷ es) fs m Q leads =
    (leads.0, leads_split arrays E es fs (if holds E guard then stored_at m (E address) (E word) else m) Q leads.1)
leads_split arrays E (Send guard port word ∷ es) fs m Q leads =
    leads_split arrays E es fs (if holds E guard then sent_to m port (E word) else m) Q leads

-- The ports to which units send, as they are marked slot by slot.
use Rattle.std.proofs.Common.{◌≡◌, ◌≢◌, ℕ, ◌+◌, ◌<◌, ◌≤◌, ◌⊎◌, Bool, true, false, List, [], ◌∷◌, ◌++◌, length, refl, sym, ap, ◌∙◌, subst, arith, ⊎_elim}
use Rattle.std.specs.Prelude.{slice_index_or}
use Rattle.std.proofs.lemmas.Bool.{cases_lt, cases_eq, true≢false}
use Rattle.std.proofs.lemmas.List.{get_or_append_left, get_or_push, get_or_past, length_push}
use Rattle.cg_model.specs.Config.{Config, fields}
use Rattle.cg_datapath.specs.Reserved.{Reserved, stream, IsSentToIn, IsSentTo, AreMarked, IsReserved, HaveRoom}

module _ (C : Config) (units : ℕ) where
  -- no port is marked before the first slot
  pub marks_begin : (used : List Bool) → ((port : ℕ) → slice_index_or used port false ≡ false) → AreMarked C units 0 used
  marks_begin used none = record { all = λ port (slot, l, s). absurd (omega arith); only = λ port e. absurd (true≢false (sym e ∙ none port)) }

  -- those of one more slot
  pub marks_next : (slot : ℕ) (old new : List Bool) →
      ((port : ℕ) → slice_index_or old port false ≡ true → slice_index_or new port false ≡ true) →
      ((port : ℕ) → IsSentToIn C units slot port → slice_index_or new port false ≡ true) →
      ((port : ℕ) → slice_index_or new port false ≡ true → (slice_index_or old port false ≡ true) ⊎ IsSentToIn C units slot port) →
      AreMarked C units slot old → AreMarked C units (slot + 1) new
  marks_next slot old new kept marked only are =
      record {
        all = λ port (s, l, sent).
            ⊎_elim
            (λ (b : s < slot). kept port (are.all port (s, b, sent)))
            (λ (b : slot ≤ s). let e : s ≡ slot = omega arith in marked port (subst (λ z. IsSentToIn C units z port) e sent))
            (cases_lt s slot);
        only = λ port e.
            ⊎_elim
            (λ h. let (s, l, sent) = are.only port h in (s, (let m : s < slot = l in omega arith), sent))
            (λ sent. (slot, (omega arith), sent))
            (only port e);
      }

  -- the streams that were reserved by the marks
  pub reserved_by : (n : ℕ) (used : List Bool) (ss : List Reserved) → AreMarked C units C.ii used →
      ((port : ℕ) → slice_index_or used port false ≡ true → (stream ss port).room ≡ n) →
      ((port : ℕ) → slice_index_or used port false ≡ false → (stream ss port).room ≡ 0) →
      IsReserved C units n ss
  reserved_by n used ss are full empty =
      record {
        used = λ port sent. full port (are.all port sent);
        unused = λ port none. by port none (slice_index_or used port false) refl;
      }
    where
      by : (port : ℕ) → (IsSentTo C units C.ii port → ⊥) → (b : Bool) → slice_index_or used port false ≡ b → (stream ss port).room ≡ 0
      by port none true e = absurd (none (are.only port e))
      by port none false e = empty port e

  -- so there is room for what is sent
  pub room_of : (n : ℕ) (ss : List Reserved) → IsReserved C units n ss → HaveRoom C units n ss
  room_of n ss is x slot lx ls o =
      let e : (stream ss (fields C x slot).port).room ≡ n = is.used (fields C x slot).port (slot, ls, (x, lx, o, refl)) in
      omega arith

-- what holds of the streams and of one more holds of all
pub stream_next : (P : Reserved → Type 0) (k : ℕ) (old new : List Reserved) (s : Reserved) → length old ≡ k → new ≡ old ++ s ∷ [] →
    (port : ℕ) → (port < k → P (stream old port)) → (port ≡ k → P s) → (k < port → P (record { words = []; room = 0 })) → P (stream new port)
stream_next P k old new s long is port before here past =
    ⊎_elim {C = P (stream new port)}
    (λ (b : port < k). subst P (sym (ap (λ (z : List Reserved). stream z port) is ∙ get_or_append_left old (s ∷ []) (record { words = []; room = 0 }) port (omega arith))) (before b))
    (λ (b : k ≤ port).
    ⊎_elim {C = P (stream new port)}
    (λ (e : port ≡ k). subst P (sym (ap (λ (z : List Reserved). stream z port) is ∙ get_or_push old s (record { words = []; room = 0 }) port (long ∙ sym e))) (here e))
    (λ (other : port ≡ k → ⊥).
    let apart : port ≢ k = other in
    let more = length_push old s in
    subst P (sym (ap (λ (z : List Reserved). stream z port) is ∙ get_or_past (old ++ s ∷ []) port (record { words = []; room = 0 }) (omega arith))) (past (omega arith)))
    (cases_eq port k))
    (cases_lt port k)

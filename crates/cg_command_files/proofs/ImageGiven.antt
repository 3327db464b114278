-- What the bytes of a file give is an image of words, which a file can hold.
use Rattle.std.proofs.Common.{◌≡◌, ℕ, zero, suc, ◌+◌, ◌<◌, ◌≤◌, Bool, true, false, cond, List, [], ◌∷◌, length, nat_lt, nat_eq, take, drop, Option, Some, None, Result, Ok, Err, option_map, option_and_then, All, refl, ap, subst, arith}
use Rattle.std.specs.List.{starts_with}
use Rattle.std.proofs.lemmas.Bool.{ltb-false}
use Rattle.std.proofs.lemmas.List.Elements.{All-nil, All-cons}
use Rattle.cg_word.specs.Word.{words}
use Rattle.cg_model.specs.Limits.{most_memory, most_stream, port_count}
use Rattle.cg_model.specs.Work.{Image}
use Rattle.cg_pad.specs.declared.fault.ImageFault.{ImageFault}
use Rattle.cg_pad.specs.declared.fault.ImageFault.TheVariants.{Magic, Truncated}
use Rattle.cg_pad.specs.Bytes.{magic, AreBytes, take_number, with_first, take_words, or_truncated, and_then, memory_too_large, stream_too_large, read_block, read_streams, at_end, read_blocks, read_magic, answer_of}
use Rattle.cg_command_files.proofs.Stored.{AreWords, IsStream, IsStored, no_words}

-- what a reading gives, where it gives something
abbrev Has : {A : Type 0} → (A → Type 0) → Option A → Type 0
Has P (Some x) = P x
Has P None = Unit {0}

abbrev Gives : {A : Type 0} → (A → Type 0) → Result A ImageFault → Type 0
Gives P (Ok x) = P x
Gives P (Err e) = Unit {0}

both : {A B : Type 0} (P : A → Type 0) (Q : B → Type 0) (r : Result A ImageFault) (f : A → Result B ImageFault) → Gives P r → ((x : A) → P x → Gives Q (f x)) → Gives Q (and_then r f)
both P Q (Ok x) f h k = k x h
both P Q (Err e) f h k = tt

or_given : {A : Type 0} (P : A → Type 0) (size : ℕ) (o : Option A) → Has P o → Gives P (or_truncated size o)
or_given P size None h = tt
or_given P size (Some x) h = h

-- ---- words

-- a word, and bytes after it
abbrev IsNumber : ℕ × List ℕ → Type 0
IsNumber p = (p.0 < words) × AreBytes p.1

number_given : (bytes : List ℕ) → AreBytes bytes → Has IsNumber (take_number bytes)
number_given [] h = tt
number_given (a ∷ []) h = tt
number_given (a ∷ b ∷ []) h = tt
number_given (a ∷ b ∷ c ∷ []) h = tt
number_given (a ∷ b ∷ c ∷ d ∷ rest) h =
    let ha : a < 256 = h 0 in
    let hb : b < 256 = h 1 in
    let hc : c < 256 = h 2 in
    let hd : d < 256 = h 3 in
    (omega (arith, ha, hb, hc, hd), λ k. h (suc (suc (suc (suc k)))))

-- n words, and bytes after them
abbrev AreTaken : ℕ → List ℕ × List ℕ → Type 0
AreTaken n p = AreWords p.0 × (length p.0 ≡ n) × AreBytes p.1

words_given : (n : ℕ) (bytes : List ℕ) → AreBytes bytes → Has (AreTaken n) (take_words n bytes)
words_given zero bytes h = (no_words, refl, h)
words_given (suc n) bytes h = by (λ rest k. words_given n rest k) (take_number bytes) (number_given bytes h)
  where
    more : (w : ℕ) → w < words → (o : Option (List ℕ × List ℕ)) → Has (AreTaken n) o → Has (AreTaken (suc n)) (option_map (with_first w) o)
    more w l None k = tt
    more w l (Some q) (ws, long, rest) = (All-cons (λ x. x < words) w q.0 l ws, ap suc long, rest)

    by : ((rest : List ℕ) → AreBytes rest → Has (AreTaken n) (take_words n rest)) → (o : Option (ℕ × List ℕ)) → Has IsNumber o
        → Has (AreTaken (suc n)) (option_and_then (λ p. option_map (with_first p.0) (take_words n p.1)) o)
    by again None k = tt
    by again (Some p) (l, rest) = more p.0 l (take_words n p.1) (again p.1 rest)

-- a block of at most that many words, and bytes after it
abbrev IsBlock : ℕ → List ℕ × List ℕ → Type 0
IsBlock most p = AreWords p.0 × (length p.0 ≤ most) × AreBytes p.1

block_given : (most : ℕ) (too_large : ℕ → ImageFault) (size : ℕ) (bytes : List ℕ) → AreBytes bytes → Gives (IsBlock most) (read_block most too_large size bytes)
block_given most too_large size bytes h =
    both IsNumber (IsBlock most) (or_truncated size (take_number bytes)) _ (or_given IsNumber size (take_number bytes) (number_given bytes h)) by
  where
    few : (n : ℕ) → nat_lt most n ≡ false → (p : List ℕ × List ℕ) → AreTaken n p → IsBlock most p
    few n e p (ws, long, rest) = (ws, (let l = ltb-false most n e in omega (arith, l, long)), rest)

    taken : (n : ℕ) → nat_lt most n ≡ false → (o : Option (List ℕ × List ℕ)) → Has (AreTaken n) o → Gives (IsBlock most) (or_truncated size o)
    taken n e None k = tt
    taken n e (Some p) k = few n e p k

    sized : (n : ℕ) (r : List ℕ) → AreBytes r → (b : Bool) → nat_lt most n ≡ b → Gives (IsBlock most) (cond b (Err (too_large n)) (or_truncated size (take_words n r)))
    sized n r k true e = tt
    sized n r k false e = taken n e (take_words n r) (words_given n r k)

    by : (p : ℕ × List ℕ) → IsNumber p → Gives (IsBlock most) (cond (nat_lt most p.0) (Err (too_large p.0)) (or_truncated size (take_words p.0 p.1)))
    by p (l, rest) = sized p.0 p.1 rest (nat_lt most p.0) refl

-- ---- streams

abbrev AreStreams : ℕ → List (List ℕ) × List ℕ → Type 0
AreStreams n p = All IsStream p.0 × (length p.0 ≡ n)

streams_given : (n size port : ℕ) (bytes : List ℕ) → AreBytes bytes → Gives (AreStreams n) (read_streams size port n bytes)
unfolding read_streams
streams_given zero size port bytes h = (All-nil IsStream, refl)
streams_given (suc n) size port bytes h =
    both (IsBlock most_stream) (AreStreams (suc n)) (read_block most_stream (stream_too_large port) size bytes) _ (block_given most_stream (stream_too_large port) size bytes h) (by (λ rest k. streams_given n size (port + 1) rest k))
  where
    more : (s : List ℕ) → IsStream s → (q : List (List ℕ) × List ℕ) → AreStreams n q → AreStreams (suc n) (with_first s q)
    more s is q (all, long) = (All-cons IsStream s q.0 is all, ap suc long)

    by : ((rest : List ℕ) → AreBytes rest → Gives (AreStreams n) (read_streams size (port + 1) n rest)) → (p : List ℕ × List ℕ) → IsBlock most_stream p
        → Gives (AreStreams (suc n)) (and_then (read_streams size (port + 1) n p.1) (λ q. Ok (with_first p.0 q)))
    by again p (ws, few, rest) = both (AreStreams n) (AreStreams (suc n)) (read_streams size (port + 1) n p.1) (λ q. Ok (with_first p.0 q)) (again p.1 rest) (more p.0 (ws, few))

-- ---- images

end_given : (size : ℕ) (image : Image) (rest : List ℕ) → IsStored image → Gives IsStored (at_end size image rest)
end_given size image [] s = s
end_given size image (b ∷ rest) s = tt

blocks_given : (size : ℕ) (bytes : List ℕ) → AreBytes bytes → Gives IsStored (read_blocks size bytes)
blocks_given size bytes h =
    both (IsBlock most_memory) IsStored (read_block most_memory memory_too_large size bytes) _ (block_given most_memory memory_too_large size bytes h) by
  where
    stored : (memory : List ℕ) → AreWords memory → length memory ≤ most_memory → (q : List (List ℕ) × List ℕ) → AreStreams port_count q → Gives IsStored (at_end size (record { memory = memory; streams = q.0 }) q.1)
    stored memory ws few q (all, long) = end_given size (record { memory = memory; streams = q.0 }) q.1 (record { sixteen = long; memory = ws; few = few; streams = all })

    by : (p : List ℕ × List ℕ) → IsBlock most_memory p → Gives IsStored (and_then (read_streams size 0 port_count p.1) (λ q. at_end size (record { memory = p.0; streams = q.0 }) q.1))
    by p (ws, few, rest) = both (AreStreams port_count) IsStored (read_streams size 0 port_count p.1) _ (streams_given port_count size 0 p.1 rest) (stored p.0 ws few)

later_bytes : (n : ℕ) (bytes : List ℕ) → AreBytes bytes → AreBytes (drop n bytes)
later_bytes zero bytes h = h
later_bytes (suc n) [] h = h
later_bytes (suc n) (b ∷ bs) h = later_bytes n bs (λ k. h (suc k))

magic_given : (bytes : List ℕ) → AreBytes bytes → Gives AreBytes (read_magic (length bytes) bytes)
magic_given bytes h = by (starts_with nat_eq magic (take 4 bytes)) (nat_lt (length bytes) 4)
  where
    by : (b c : Bool) → Gives AreBytes (cond b (cond c (Err (Truncated (length bytes))) (Ok (drop 4 bytes))) (Err Magic))
    by true true = tt
    by true false = later_bytes 4 bytes h
    by false c = tt

answer_stored : (bytes : List ℕ) → AreBytes bytes → Gives IsStored (answer_of bytes)
unfolding answer_of
answer_stored bytes h = both AreBytes IsStored (read_magic (length bytes) bytes) (read_blocks (length bytes)) (magic_given bytes h) (λ r k. blocks_given (length bytes) r k)

pub given_stored : (bytes : List ℕ) (image : Image) → AreBytes bytes → answer_of bytes ≡ Ok image → IsStored image
given_stored bytes image h e = subst (Gives IsStored) e (answer_stored bytes h)

-- Steps of reading, one after the other.
use Rattle.std.proofs.Common.{◌≡◌, ℕ, suc, ◌+◌, append_assoc, append-nil, List, [], ◌∷◌, ◌++◌, Option, Some, None, Result, Ok, Err, option_map, refl, ap}
use Rattle.cg_model.specs.Limits.{most_stream}
use Rattle.cg_pad.specs.declared.fault.ImageFault.{ImageFault}
use Rattle.cg_pad.specs.Bytes.{with_first, take_number, take_words, read_streams, read_block, and_then, stream_too_large}

-- words, and then those that are taken
abbrev pub after : List ℕ → Option (List ℕ × List ℕ) → Option (List ℕ × List ℕ)
after front taken = option_map (λ p. (front ++ p.0, p.1)) taken

-- streams, and then those that are read
abbrev pub streams_after : List (List ℕ) → Result (List (List ℕ) × List ℕ) ImageFault → Result (List (List ℕ) × List ℕ) ImageFault
streams_after front read = and_then read (λ q. Ok (front ++ q.0, q.1))

after_cons : (front : List ℕ) (w : ℕ) (taken : Option (List ℕ × List ℕ)) → after (front ++ w ∷ []) taken ≡ after front (option_map (with_first w) taken)
after_cons front w None = refl
after_cons front w (Some q) = ap (λ xs. Some (xs, q.1)) (append_assoc front (w ∷ []) q.0)

-- one word more
pub word_more : (front : List ℕ) (n k w : ℕ) (bytes rest : List ℕ) → n ≡ suc k → take_number bytes ≡ Some (w, rest) → after (front ++ w ∷ []) (take_words k rest) ≡ after front (take_words n bytes)
word_more front n k w bytes rest e t = rw (e, t) (after_cons front w (take_words k rest))

-- the bytes end before
pub word_none : (front : List ℕ) (n k : ℕ) (bytes : List ℕ) → n ≡ suc k → take_number bytes ≡ None → after front (take_words n bytes) ≡ None
word_none front n k bytes e t = rw (e, t) refl

streams_after_cons : (front : List (List ℕ)) (ws : List ℕ) (read : Result (List (List ℕ) × List ℕ) ImageFault) → streams_after (front ++ ws ∷ []) read ≡ streams_after front (and_then read (λ q. Ok (with_first ws q)))
streams_after_cons front ws (Err e) = refl
streams_after_cons front ws (Ok q) = ap (λ xs. Ok (xs, q.1)) (append_assoc front (ws ∷ []) q.0)

pub streams_after_none : (read : Result (List (List ℕ) × List ℕ) ImageFault) → streams_after [] read ≡ read
streams_after_none (Err e) = refl
streams_after_none (Ok q) = refl

-- one stream more
pub stream_more : (front : List (List ℕ)) (size port n k : ℕ) (ws bytes rest : List ℕ) → n ≡ suc k → Ok (ws, rest) ≡ read_block most_stream (stream_too_large port) size bytes
    → streams_after (front ++ ws ∷ []) (read_streams size (port + 1) k rest) ≡ streams_after front (read_streams size port n bytes)
unfolding read_streams
stream_more front size port n k ws bytes rest e t = rw (e, ← t) (streams_after_cons front ws (read_streams size (port + 1) k rest))

-- a stream that was refused
pub stream_refused : (front : List (List ℕ)) (size port n k : ℕ) (bytes : List ℕ) (fault : ImageFault) → n ≡ suc k → Err fault ≡ read_block most_stream (stream_too_large port) size bytes
    → Err fault ≡ streams_after front (read_streams size port n bytes)
unfolding read_streams
stream_refused front size port n k bytes fault e t = rw (e, ← t) refl

-- no stream is left
pub streams_end : (front : List (List ℕ)) (size port : ℕ) (rest : List ℕ) → streams_after front (read_streams size port 0 rest) ≡ Ok (front, rest)
unfolding read_streams
streams_end front size port rest = ap (λ xs. Ok (xs, rest)) (append-nil front)

-- What is written reads back, and what is read is what was written.
use Rattle.std.proofs.Common.{◌≡◌, ℕ, zero, suc, ◌+◌, ◌<◌, ◌≤◌, ◌^◌, List, [], ◌∷◌, ◌++◌, length, Bool, true, false, cond, Option, Some, None, Result, Ok, Err, option_map, option_and_then, refl, ap, ◌∙◌, sym, subst, arith, append_assoc, append-nil, flat_map, nat_lt, nat_eq, take, drop, ◌&&◌, eqb-true}
use Rattle.std.specs.Prelude.{slice_index, slice_index_or}
use Rattle.std.specs.List.{starts_with}
use Rattle.std.specs.Int.{to_be_bytes, from_be_bytes, w32}
use Rattle.std.proofs.lemmas.Nat.{from_be_bytes-to_be_bytes_4, be_bytes_4}
use Rattle.std.proofs.lemmas.Bool.{le-ltb, and_parts}
use Rattle.cg_model.specs.Work.{Image, IsImage}
use Rattle.cg_model.specs.Limits.{most_memory, most_stream}
use Rattle.cg_pad.specs.declared.fault.ImageFault.{ImageFault}
use Rattle.cg_pad.specs.declared.fault.ImageFault.TheVariants.{Magic, Truncated}
use Rattle.cg_pad.specs.Bytes.{with_first, magic, block_bytes, image_bytes, AreBytes, IsStorable, or_truncated, and_then, take_number, take_words, read_block, read_streams, read_blocks, at_end, answer_of, memory_too_large, stream_too_large}

-- ---- what is written reads back

-- each is a word; past the end stands 0
abbrev AreWords : List ℕ → Type 0
AreWords ws = (k : ℕ) → k < length ws → slice_index ws k < 2 ^ 32

words_back : (ws rest : List ℕ) → AreWords ws → take_words (length ws) (flat_map (to_be_bytes w32) ws ++ rest) ≡ Some (ws, rest)
words_back [] rest h = refl
words_back (w ∷ ws) rest h =
    ap (option_map (with_first (from_be_bytes w32 (to_be_bytes w32 w)))) (words_back ws rest (λ k l. h (suc k) (omega arith)))
    ∙ ap (λ k. Some (k ∷ ws, rest)) (from_be_bytes-to_be_bytes_4 w (h 0 (omega arith)))

block_back : (most : ℕ) (too_large : ℕ → ImageFault) (size : ℕ) (ws rest : List ℕ) → length ws ≤ most → most < 2 ^ 32 → AreWords ws → read_block most too_large size (block_bytes ws ++ rest) ≡ Ok (ws, rest)
block_back most too_large size ws rest few small h =
    ap (λ n. cond (nat_lt most n) (Err (too_large n)) (or_truncated size (take_words n (flat_map (to_be_bytes w32) ws ++ rest)))) (from_be_bytes-to_be_bytes_4 (length ws) (omega arith))
    ∙ rw (le-ltb most (length ws) few, words_back ws rest h) refl

streams_back : (ss : List (List ℕ)) (size port : ℕ) (rest : List ℕ) → ((p : ℕ) → length (slice_index_or ss p []) ≤ 1000000) → ((p : ℕ) → AreWords (slice_index_or ss p []))
    → read_streams size port (length ss) (flat_map block_bytes ss ++ rest) ≡ Ok (ss, rest)
unfolding read_streams
streams_back [] size port rest few h = refl
streams_back (s ∷ ss) size port rest few h =
    ap (λ bytes. and_then (read_block most_stream (stream_too_large port) size bytes) (λ p. and_then (read_streams size (port + 1) (length ss) p.1) (λ q. Ok (with_first p.0 q)))) (append_assoc (block_bytes s) (flat_map block_bytes ss) rest)
    ∙ rw (block_back most_stream (stream_too_large port) size s (flat_map block_bytes ss ++ rest) (few 0) (omega arith) (h 0))
    (ap (λ r. and_then r (λ q. Ok (with_first s q))) (streams_back ss size (port + 1) rest (λ p. few (suc p)) (λ p. h (suc p))))

pub written : (image : Image) → IsImage image → IsStorable image → answer_of (image_bytes image) ≡ Ok image
unfolding answer_of image_bytes
written image is fits =
    let body = block_bytes image.memory ++ flat_map block_bytes image.streams in
    let size = length (magic ++ body) in
    let long : nat_lt size 4 ≡ false = le-ltb size 4 (omega arith) in
    let memory = block_back most_memory memory_too_large size image.memory (flat_map block_bytes image.streams) fits.memory (omega arith) is.memory in
    let whole : read_streams size 0 16 (flat_map block_bytes image.streams) ≡ Ok (image.streams, []) =
    ap (λ n. read_streams size 0 n (flat_map block_bytes image.streams)) (sym is.sixteen) ∙ ap (read_streams size 0 (length image.streams)) (sym (append-nil (flat_map block_bytes image.streams))) ∙ streams_back image.streams size 0 [] fits.streams is.streams in
    rw (long, memory, whole) refl

-- ---- what is read is what was written

four : (a b c d : ℕ) → a < 256 → b < 256 → c < 256 → d < 256 → AreBytes (a ∷ b ∷ c ∷ d ∷ [])
four a b c d p q r s zero = p
four a b c d p q r s (suc zero) = q
four a b c d p q r s (suc (suc zero)) = r
four a b c d p q r s (suc (suc (suc zero))) = s
four a b c d p q r s (suc (suc (suc (suc k)))) = omega arith

-- what was taken, and what was left, were the bytes; what was left are bytes
record Were (taken rest bytes : List ℕ) : Type 0 where
  are : taken ++ rest ≡ bytes
  left : AreBytes rest

number_read : (bytes rest : List ℕ) (n : ℕ) → AreBytes bytes → take_number bytes ≡ Some (n, rest) → Were (to_be_bytes w32 n) rest bytes
number_read [] rest n h e = cc
number_read (a ∷ []) rest n h e = cc
number_read (a ∷ b ∷ []) rest n h e = cc
number_read (a ∷ b ∷ c ∷ []) rest n h e = cc
number_read (a ∷ b ∷ c ∷ d ∷ r) rest n h e =
    let pair : ◌≡◌ {A = ℕ × List ℕ} (from_be_bytes w32 (a ∷ b ∷ c ∷ d ∷ []), r) (n, rest) = cc in
    let number : n ≡ from_be_bytes w32 (a ∷ b ∷ c ∷ d ∷ []) = sym (ap (λ p. p.0) pair) in
    let same : r ≡ rest = ap (λ p. p.1) pair in
    record {
      are = ap (λ z. z ++ rest) (be_bytes_4 (a ∷ b ∷ c ∷ d ∷ []) n refl (four a b c d (h 0) (h 1) (h 2) (h 3)) number) ∙ ap (λ z. a ∷ b ∷ c ∷ d ∷ z) (sym same);
      left = subst AreBytes same (λ k. h (suc (suc (suc (suc k)))));
    }

-- n words, and what is left of the bytes
record WereWords (n : ℕ) (ws rest bytes : List ℕ) : Type 0 where
  count : length ws ≡ n
  were : Were (flat_map (to_be_bytes w32) ws) rest bytes

module _ (n : ℕ) (again : (bytes ws rest : List ℕ) → AreBytes bytes → take_words n bytes ≡ Some (ws, rest) → WereWords n ws rest bytes) (bytes ws rest : List ℕ) where
  by_words : (w : ℕ) (r : List ℕ) → Were (to_be_bytes w32 w) r bytes → (o : Option (List ℕ × List ℕ)) → take_words n r ≡ o → option_map (with_first w) o ≡ Some (ws, rest) → WereWords (suc n) ws rest bytes
  by_words w r one None t f = cc
  by_words w r one (Some q) t f =
      let more = again r q.0 q.1 one.left t in
      let pair : ◌≡◌ {A = List ℕ × List ℕ} (w ∷ q.0, q.1) (ws, rest) = cc in
      let words : w ∷ q.0 ≡ ws = ap (λ p. p.0) pair in
      let same : q.1 ≡ rest = ap (λ p. p.1) pair in
      rw (← words, ← same) (record {
        count = ap suc more.count;
        were = record {
          are = append_assoc (to_be_bytes w32 w) (flat_map (to_be_bytes w32) q.0) q.1 ∙ ap (λ z. to_be_bytes w32 w ++ z) more.were.are ∙ one.are;
          left = more.were.left;
        };
      })

  by_number : AreBytes bytes → (o : Option (ℕ × List ℕ)) → take_number bytes ≡ o → option_and_then (λ p. option_map (with_first p.0) (take_words n p.1)) o ≡ Some (ws, rest) → WereWords (suc n) ws rest bytes
  by_number h None t f = cc
  by_number h (Some p) t f = by_words p.0 p.1 (number_read bytes p.1 p.0 h t) (take_words n p.1) refl f

words_read : (n : ℕ) (bytes ws rest : List ℕ) → AreBytes bytes → take_words n bytes ≡ Some (ws, rest) → WereWords n ws rest bytes
words_read zero bytes ws rest h e =
    let pair : ◌≡◌ {A = List ℕ × List ℕ} ([], bytes) (ws, rest) = cc in
    let none : [] ≡ ws = ap (λ p. p.0) pair in
    let same : bytes ≡ rest = ap (λ p. p.1) pair in
    rw (← none, ← same) (record { count = refl; were = record { are = refl; left = h } })
words_read (suc n) bytes ws rest h e = by_number n (words_read n) bytes ws rest h (take_number bytes) refl e

block_read : (most : ℕ) (too_large : ℕ → ImageFault) (size : ℕ) (bytes ws rest : List ℕ) → AreBytes bytes → read_block most too_large size bytes ≡ Ok (ws, rest) → Were (block_bytes ws) rest bytes
block_read most too_large size bytes ws rest h e = by_count (take_number bytes) refl e
  where
    by_taken : (n : ℕ) (r : List ℕ) → Were (to_be_bytes w32 n) r bytes → (o : Option (List ℕ × List ℕ)) → take_words n r ≡ o → or_truncated size o ≡ Ok (ws, rest) → Were (block_bytes ws) rest bytes
    by_taken n r one None t f = cc
    by_taken n r one (Some q) t f =
        let pair : ◌≡◌ {A = List ℕ × List ℕ} q (ws, rest) = cc in
        let more = words_read n r ws rest one.left (t ∙ ap (λ z. Some z) pair) in
        record {
          are = append_assoc (to_be_bytes w32 (length ws)) (flat_map (to_be_bytes w32) ws) rest
              ∙ ap (λ z. to_be_bytes w32 (length ws) ++ z) more.were.are ∙ ap (λ k. to_be_bytes w32 k ++ r) more.count ∙ one.are;
          left = more.were.left;
        }

    by_size : (n : ℕ) (r : List ℕ) → Were (to_be_bytes w32 n) r bytes → (b : Bool) → cond b (Err (too_large n)) (or_truncated size (take_words n r)) ≡ Ok (ws, rest) → Were (block_bytes ws) rest bytes
    by_size n r one true f = cc
    by_size n r one false f = by_taken n r one (take_words n r) refl f

    by_count : (o : Option (ℕ × List ℕ)) → take_number bytes ≡ o
        → and_then (or_truncated size o) (λ p. cond (nat_lt most p.0) (Err (too_large p.0)) (or_truncated size (take_words p.0 p.1))) ≡ Ok (ws, rest) → Were (block_bytes ws) rest bytes
    by_count None t f = cc
    by_count (Some p) t f = by_size p.0 p.1 (number_read bytes p.1 p.0 h t) (nat_lt most p.0) f

-- the blocks of streams
module _ (size port n : ℕ) (again : (bytes : List ℕ) (ss : List (List ℕ)) (rest : List ℕ) → AreBytes bytes → read_streams size (port + 1) n bytes ≡ Ok (ss, rest) → Were (flat_map block_bytes ss) rest bytes) (bytes : List ℕ) (ss : List (List ℕ)) (rest : List ℕ) where
  by_more : (s r : List ℕ) → Were (block_bytes s) r bytes → (o : Result (List (List ℕ) × List ℕ) ImageFault) → read_streams size (port + 1) n r ≡ o → and_then o (λ q. Ok (with_first s q)) ≡ Ok (ss, rest) → Were (flat_map block_bytes ss) rest bytes
  by_more s r one (Err e) t f = cc
  by_more s r one (Ok q) t f =
      let more = again r q.0 q.1 one.left t in
      let pair : ◌≡◌ {A = List (List ℕ) × List ℕ} (s ∷ q.0, q.1) (ss, rest) = cc in
      let streams : s ∷ q.0 ≡ ss = ap (λ p. p.0) pair in
      let same : q.1 ≡ rest = ap (λ p. p.1) pair in
      rw (← streams, ← same) (record {
        are = append_assoc (block_bytes s) (flat_map block_bytes q.0) q.1 ∙ ap (λ z. block_bytes s ++ z) more.are ∙ one.are;
        left = more.left;
      })

  by_first : AreBytes bytes → (o : Result (List ℕ × List ℕ) ImageFault) → read_block most_stream (stream_too_large port) size bytes ≡ o
      → and_then o (λ p. and_then (read_streams size (port + 1) n p.1) (λ q. Ok (with_first p.0 q))) ≡ Ok (ss, rest) → Were (flat_map block_bytes ss) rest bytes
  by_first h (Err e) t f = cc
  by_first h (Ok p) t f = by_more p.0 p.1 (block_read most_stream (stream_too_large port) size bytes p.0 p.1 h t) (read_streams size (port + 1) n p.1) refl f

streams_read : (n size port : ℕ) (bytes : List ℕ) (ss : List (List ℕ)) (rest : List ℕ) → AreBytes bytes → read_streams size port n bytes ≡ Ok (ss, rest) → Were (flat_map block_bytes ss) rest bytes
unfolding read_streams
streams_read zero size port bytes ss rest h e =
    let pair : ◌≡◌ {A = List (List ℕ) × List ℕ} ([], bytes) (ss, rest) = cc in
    let none : [] ≡ ss = ap (λ p. p.0) pair in
    let same : bytes ≡ rest = ap (λ p. p.1) pair in
    rw (← none, ← same) (record { are = refl; left = h })
streams_read (suc n) size port bytes ss rest h e = by_first size port n (streams_read n size (port + 1)) bytes ss rest h (read_block most_stream (stream_too_large port) size bytes) refl e

-- the blocks of an image
module _ (size : ℕ) (bytes : List ℕ) (image : Image) where
  by_end : (memory rest : List ℕ) → Were (block_bytes memory) rest bytes → (streams : List (List ℕ)) (last : List ℕ) → Were (flat_map block_bytes streams) last rest
      → at_end size (record { memory = memory; streams = streams }) last ≡ Ok image → block_bytes image.memory ++ flat_map block_bytes image.streams ≡ bytes
  by_end memory rest one streams [] more f =
      let is : record { memory = memory; streams = streams } ≡ image = cc in
      rw (← is) (ap (λ z. block_bytes memory ++ z) (sym (append-nil (flat_map block_bytes streams)) ∙ more.are) ∙ one.are)
  by_end memory rest one streams (b ∷ last) more f = cc

  by_streams : (memory rest : List ℕ) → Were (block_bytes memory) rest bytes → (o : Result (List (List ℕ) × List ℕ) ImageFault) → read_streams size 0 16 rest ≡ o
      → and_then o (λ q. at_end size (record { memory = memory; streams = q.0 }) q.1) ≡ Ok image → block_bytes image.memory ++ flat_map block_bytes image.streams ≡ bytes
  by_streams memory rest one (Err e) t f = cc
  by_streams memory rest one (Ok q) t f = by_end memory rest one q.0 q.1 (streams_read 16 size 0 rest q.0 q.1 one.left t) f

  by_memory : AreBytes bytes → (o : Result (List ℕ × List ℕ) ImageFault) → read_block most_memory memory_too_large size bytes ≡ o
      → and_then o (λ p. and_then (read_streams size 0 16 p.1) (λ q. at_end size (record { memory = p.0; streams = q.0 }) q.1)) ≡ Ok image → block_bytes image.memory ++ flat_map block_bytes image.streams ≡ bytes
  by_memory h (Err e) t f = cc
  by_memory h (Ok p) t f = by_streams p.0 p.1 (block_read most_memory memory_too_large size bytes p.0 p.1 h t) (read_streams size 0 16 p.1) refl f

blocks_read : (size : ℕ) (bytes : List ℕ) (image : Image) → AreBytes bytes → read_blocks size bytes ≡ Ok image → block_bytes image.memory ++ flat_map block_bytes image.streams ≡ bytes
blocks_read size bytes image h e = by_memory size bytes image h (read_block most_memory memory_too_large size bytes) refl e

-- the letters, and what follows them
letters : (bytes : List ℕ) → starts_with nat_eq magic (take 4 bytes) ≡ true → nat_lt (length bytes) 4 ≡ false → magic ++ drop 4 bytes ≡ bytes
letters [] m l = cc
letters (a ∷ []) m l = cc
letters (a ∷ b ∷ []) m l = cc
letters (a ∷ b ∷ c ∷ []) m l = cc
letters (a ∷ b ∷ c ∷ d ∷ rest) m l =
    let first = and_parts (nat_eq a 67) (nat_eq b 71 && (nat_eq c 73 && (nat_eq d 49 && true))) m in
    let second = and_parts (nat_eq b 71) (nat_eq c 73 && (nat_eq d 49 && true)) first.1 in
    let third = and_parts (nat_eq c 73) (nat_eq d 49 && true) second.1 in
    let fourth = and_parts (nat_eq d 49) true third.1 in
    let ea : a ≡ 67 = eqb-true a 67 first.0 in
    let eb : b ≡ 71 = eqb-true b 71 second.0 in
    let ec : c ≡ 73 = eqb-true c 73 third.0 in
    let ed : d ≡ 49 = eqb-true d 49 fourth.0 in
    rw (ea, eb, ec, ed) refl

later_bytes : (n : ℕ) (bytes : List ℕ) → AreBytes bytes → AreBytes (drop n bytes)
later_bytes zero bytes h = h
later_bytes (suc n) [] h = h
later_bytes (suc n) (b ∷ bs) h = later_bytes n bs (λ k. h (suc k))

pub read : (bytes : List ℕ) (image : Image) → AreBytes bytes → answer_of bytes ≡ Ok image → image_bytes image ≡ bytes
unfolding answer_of image_bytes
read bytes image h e = by_letters (starts_with nat_eq magic (take 4 bytes)) refl e
  where
    by_length : starts_with nat_eq magic (take 4 bytes) ≡ true → (b : Bool) → nat_lt (length bytes) 4 ≡ b → and_then (cond b (Err (Truncated (length bytes))) (Ok (drop 4 bytes))) (read_blocks (length bytes)) ≡ Ok image
        → magic ++ (block_bytes image.memory ++ flat_map block_bytes image.streams) ≡ bytes
    by_length m true l f = cc
    by_length m false l f = ap (λ z. magic ++ z) (blocks_read (length bytes) (drop 4 bytes) image (later_bytes 4 bytes h) f) ∙ letters bytes m l

    by_letters : (b : Bool) → starts_with nat_eq magic (take 4 bytes) ≡ b → and_then (cond b (cond (nat_lt (length bytes) 4) (Err (Truncated (length bytes))) (Ok (drop 4 bytes))) (Err Magic)) (read_blocks (length bytes)) ≡ Ok image
        → magic ++ (block_bytes image.memory ++ flat_map block_bytes image.streams) ≡ bytes
    by_letters true m f = by_length m (nat_lt (length bytes) 4) refl f
    by_letters false m f = cc

-- Steps of cutting bytes into tokens.
use Rattle.std.proofs.Common.{◌≡◌, ℕ, zero, suc, ◌+◌, ◌<◌, ◌≤◌, false, cond, List, [], ◌∷◌, ◌++◌, length, get_or, take, drop, sym, ◌∙◌, ap, arith, add-one, length-drop}
use Rattle.std.proofs.lemmas.List.{drop-drop, drop_more, drop_all}
use Rattle.cg_c_syntax.specs.declared.token.Kind.{Kind}
use Rattle.cg_c_syntax.specs.declared.token.Kind.TheVariants.{LineEnd, TextEnd, Stray}
use Rattle.cg_c_syntax.specs.declared.token.Line.{Line}
use Rattle.cg_c_syntax.specs.declared.token.Line.TheVariants.{Fresh, Directive}
use Rattle.cg_c_syntax.specs.declared.token.Piece.{Piece}
use Rattle.cg_c_syntax.specs.declared.token.Piece.TheVariants as pieces
use Rattle.cg_c_syntax.specs.Pieces.{piece_of}
use Rattle.cg_c_syntax.specs.Tokens.{Token, empty, line_end, line_after, from_piece, tokens_from, tokens_at, is_last}
use Rattle.cg_c_reader.specs.declared.tokens.Cut.{Cut}
use Rattle.cg_c_reader.specs.declared.tokens.Cursor.{Cursor}
use Rattle.cg_c_reader.specs.Seen.{seen, rest_after, Cuts}

-- the bytes of the piece before are passed over
passed : (line : Line) (n p : ℕ) (bytes : List ℕ) → n ≤ length bytes → tokens_from line n p bytes ≡ tokens_from line 0 (p + n) (drop n bytes)
passed line zero p [] h = ap (λ x. tokens_from line 0 x []) (omega arith)
passed line zero p (b ∷ bytes) h = ap (λ x. tokens_from line 0 x (b ∷ bytes)) (omega arith)
passed line (suc n) p [] h = absurd (omega arith)
passed line (suc n) p (b ∷ bytes) h = passed line n (p + 1) bytes (omega arith) ∙ ap (λ x. tokens_from line 0 x (drop n bytes)) (omega arith)

module _ (bytes : List ℕ) (line : Line) (place : ℕ) (here : place < length bytes) where
  piece_at : (piece : Piece) → piece_of line (drop place bytes) ≡ piece
      → tokens_at bytes line place ≡ from_piece piece line place (get_or bytes place 0) (drop (place + 1) bytes) (λ after n. tokens_from after n (place + 1) (drop (place + 1) bytes))
  piece_at piece e =
      let rest = drop (place + 1) bytes in
      let cut : drop place bytes ≡ get_or bytes place 0 ∷ rest = drop_more bytes place 0 here in
      ap (tokens_from line 0 place) cut
      ∙ ap (λ x. from_piece x line place (get_or bytes place 0) rest (λ after n. tokens_from after n (place + 1) rest)) (sym (ap (piece_of line) cut) ∙ e)

  further : (after : Line) (n : ℕ) → n < length (drop place bytes) → tokens_from after n (place + 1) (drop (place + 1) bytes) ≡ tokens_at bytes after (place + n + 1)
  further after n within =
      let room : n ≤ length (drop (place + 1) bytes) = omega (arith, length-drop (place + 1) bytes, length-drop place bytes) in
      passed after n (place + 1) (drop (place + 1) bytes) room
      ∙ ap (tokens_from after 0 (place + 1 + n)) (drop-drop n (place + 1) bytes)
      ∙ ap (tokens_at bytes after) (omega arith)

  pub gap_cut : (n : ℕ) → n < length (drop place bytes) → piece_of line (drop place bytes) ≡ pieces.Gap n → tokens_at bytes line place ≡ tokens_at bytes line (place + n + 1)
  gap_cut n within e = piece_at (pieces.Gap n) e ∙ further line n within

  pub feed_cut : piece_of line (drop place bytes) ≡ pieces.LineFeed → tokens_at bytes line place ≡ line_end line place ++ tokens_at bytes Fresh (place + 1)
  feed_cut e = piece_at pieces.LineFeed e

  pub token_cut : (kind : Kind) (n : ℕ) → n < length (drop place bytes) → piece_of line (drop place bytes) ≡ pieces.Token kind n
      → tokens_at bytes line place ≡ record { kind = kind; text = take (n + 1) (drop place bytes); place = place } ∷ tokens_at bytes (line_after kind line) (place + n + 1)
  token_cut kind n within e =
      let rest = drop (place + 1) bytes in
      let cut : drop place bytes ≡ get_or bytes place 0 ∷ rest = drop_more bytes place 0 here in
      let text : get_or bytes place 0 ∷ take n rest ≡ take (n + 1) (drop place bytes) = sym (ap (take (n + 1)) cut ∙ ap (λ m. take m (get_or bytes place 0 ∷ rest)) (add-one n)) in
      piece_at (pieces.Token kind n) e
      ∙ ap (λ (x : List ℕ). record { kind = kind; text = x; place = place } ∷ tokens_from (line_after kind line) n (place + 1) rest) text
      ∙ ap (λ (x : List Token). record { kind = kind; text = take (n + 1) (drop place bytes); place = place } ∷ x) (further (line_after kind line) n within)

  pub nothing_cut : (n : ℕ) → piece_of line (drop place bytes) ≡ pieces.Nothing n → tokens_at bytes line place ≡ empty Stray (place + n) ∷ []
  nothing_cut n e = piece_at (pieces.Nothing n) e

module _ (bytes : List ℕ) (line : Line) (place : ℕ) (here : place < length bytes) (rest : List ℕ) (whole : rest ≡ drop place bytes) where
  -- a blank or a comment
  pub cut_gap : (n : ℕ) → n < length rest → piece_of line rest ≡ pieces.Gap n → tokens_at bytes line place ≡ tokens_at bytes line (place + n + 1)
  cut_gap n within e =
      let room : n < length (drop place bytes) = omega (arith, ap length whole) in
      gap_cut bytes line place here n room (ap (piece_of line) (sym whole) ∙ e)

  -- a line feed where no directive ends
  pub cut_feed : line_end line place ≡ [] → piece_of line rest ≡ pieces.LineFeed → tokens_at bytes line place ≡ tokens_at bytes Fresh (place + 1)
  cut_feed none e = feed_cut bytes line place here (ap (piece_of line) (sym whole) ∙ e) ∙ ap (λ (x : List Token). x ++ tokens_at bytes Fresh (place + 1)) none

  -- a line feed where one does
  pub cut_line_end : (cut : Cut) → line ≡ Directive → piece_of line rest ≡ pieces.LineFeed → seen cut.token ≡ empty LineEnd place → cut.next ≡ record { place = place + 1; line = Fresh } → Cuts bytes line place cut
  cut_line_end cut directive e token next =
      let F = λ (t : Token) (n : Cursor). t ∷ rest_after t.kind (tokens_at bytes n.line n.place) in
      record {
        tokens =
            feed_cut bytes line place here (ap (piece_of line) (sym whole) ∙ e)
            ∙ ap (λ (x : Line). line_end x place ++ tokens_at bytes Fresh (place + 1)) directive
            ∙ ap (F (empty LineEnd place)) (sym next)
            ∙ ap (λ (t : Token). F t cut.next) (sym token);
      }

  -- a token that is not the last
  pub cut_token : (kind : Kind) (n : ℕ) (after : Line) → n < length rest → is_last kind ≡ false → after ≡ line_after kind line → piece_of line rest ≡ pieces.Token kind n
      → tokens_at bytes line place ≡ record { kind = kind; text = take (n + 1) rest; place = place } ∷ rest_after kind (tokens_at bytes after (place + n + 1))
  cut_token kind n after within last same e =
      let room : n < length (drop place bytes) = omega (arith, ap length whole) in
      let t : Token = record { kind = kind; text = take (n + 1) rest; place = place } in
      token_cut bytes line place here kind n room (ap (piece_of line) (sym whole) ∙ e)
      ∙ ap (λ (x : List ℕ). record { kind = kind; text = take (n + 1) x; place = place } ∷ tokens_at bytes (line_after kind line) (place + n + 1)) (sym whole)
      ∙ ap (λ (x : Line). t ∷ tokens_at bytes x (place + n + 1)) (sym same)
      ∙ ap (λ b. t ∷ cond b [] (tokens_at bytes after (place + n + 1))) (sym last)

-- from an earlier place on
pub cuts_from : (bytes : List ℕ) (line : Line) (place : ℕ) (line' : Line) (place' : ℕ) (cut : Cut) → tokens_at bytes line place ≡ tokens_at bytes line' place' → Cuts bytes line place cut → Cuts bytes line' place' cut
cuts_from bytes line place line' place' cut same cuts = record { tokens = sym same ∙ cuts.tokens }

-- behind the last byte
pub end_cut : (bytes : List ℕ) (line : Line) (place : ℕ) → length bytes ≤ place → tokens_at bytes line place ≡ line_end line place ++ empty TextEnd place ∷ []
end_cut bytes line place h = ap (tokens_from line 0 place) (drop_all place bytes h)

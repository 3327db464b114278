-- Images whose words are words, and that a file can hold.
use Rattle.std.proofs.Common.{◌≡◌, ℕ, ◌<◌, ◌≤◌, List, [], length, All, ⊎_elim, sym, subst, arith}
use Rattle.std.specs.Prelude.{slice_index, slice_index_or}
use Rattle.std.proofs.lemmas.Bool.{cases_lt}
use Rattle.std.proofs.lemmas.List.Elements.{All-nil, All-get_or}
use Rattle.std.proofs.lemmas.List.{get_or_past}
use Rattle.cg_word.specs.Word.{words}
use Rattle.cg_model.specs.Limits.{most_memory, most_stream, port_count}
use Rattle.cg_model.specs.Work.{Image, IsImage}
use Rattle.cg_pad.specs.Bytes.{IsStorable}

abbrev pub AreWords : List ℕ → Type 0
AreWords ws = All (λ w. w < words) ws

-- words of a stream, no more than it may have
abbrev pub IsStream : List ℕ → Type 0
IsStream ws = AreWords ws × (length ws ≤ most_stream)

pub record IsStored (image : Image) : Type 0 where
  pub sixteen : length image.streams ≡ port_count
  pub memory : AreWords image.memory
  pub few : length image.memory ≤ most_memory
  pub streams : All IsStream image.streams

pub no_words : AreWords []
no_words = All-nil (λ w. w < words)

pub no_stream : IsStream []
no_stream = (no_words, omega arith)

-- the stream of a port, which has no words past the last one
pub stream_at : (streams : List (List ℕ)) → All IsStream streams → (port : ℕ) → IsStream (slice_index_or streams port [])
stream_at streams h port =
    ⊎_elim (λ l. All-get_or IsStream streams port [] l h)
    (λ past. subst IsStream (sym (get_or_past streams port [] past)) no_stream)
    (cases_lt port (length streams))

word_at : (ws : List ℕ) → AreWords ws → (k : ℕ) → k < length ws → slice_index ws k < words
word_at ws h k l = All-get_or (λ w. w < words) ws k 0 l h

-- past the end stands 0
pub word_anywhere : (ws : List ℕ) → AreWords ws → (k : ℕ) → slice_index ws k < words
word_anywhere ws h k =
    ⊎_elim (λ l. word_at ws h k l)
    (λ past. subst (λ w. w < words) (sym (get_or_past ws k 0 past)) (omega arith))
    (cases_lt k (length ws))

pub is_image : (image : Image) → IsStored image → IsImage image
is_image image s = record {
  sixteen = s.sixteen;
  memory = λ a l. word_at image.memory s.memory a l;
  streams = λ port k l. word_at (slice_index_or image.streams port []) (stream_at image.streams s.streams port).0 k l;
}

pub is_storable : (image : Image) → IsStored image → IsStorable image
is_storable image s = record {
  memory = s.few;
  streams = λ port. (stream_at image.streams s.streams port).1;
}

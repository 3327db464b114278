-- The parts of panels, each by what is printed one after the other.
use Rattle.std.proofs.Common.{◌≡◌, ℕ, ◌+◌, ◌*◌, ◌/◌, ◌%◌, Bool, true, false, cond, List, [], ◌++◌, Result, sym, ap, subst, ◌∙◌}
use Rattle.std.specs.Prelude.{codes, decimal, OnOk}
use Rattle.std.proofs.lemmas.List.{append-nil}
use Rattle.cg_model.specs.declared.array.Kind.{Kind}
use Rattle.cg_model.specs.Array.{Arch, resource}
use Rattle.cg_model.specs.Mapping.{Position}
use Rattle.cg_check.specs.Legal.{Mapped}
use Rattle.cg_layout.specs.Tiles.{tile_of}
use Rattle.cg_layout.specs.declared.spot.Spot.{Spot}
use Rattle.cg_layout.specs.Layout.{frame_of, seat, corner, tile_height}
use Rattle.cg_layout.specs.Svg.{rect_text, words_text, path_text, mark_head, mark_text, mark_end}
use Rattle.cg_layout.specs.Ways.{way}
use Rattle.cg_show.specs.Words.{colour, cut, node_name, op_text, start_title, stay_title, link_title, round_of}
use Rattle.cg_show.specs.Marked.{start_mark, stay_mark, line_class, ring_by}
use Rattle.cg_show.specs.Panels.{begins_tile, tile_text, frame_text}
use Rattle.cg_show.proofs.Steps.{joined}

-- the same part under another name
pub same_part : {T E : Type 0} (r : Result T E) (old new part whole : List ℕ) → part ≡ whole → OnOk r (new ≡ old ++ part) → OnOk r (new ≡ old ++ whole)
same_part r old new part whole e here = subst (λ z. OnOk r (new ≡ old ++ z)) e here

-- a part that is empty
pub no_part : (old part : List ℕ) → [] ≡ part → old ≡ old ++ part
no_part old part e = sym (append-nil old) ∙ ap (λ z. old ++ z) e

-- a node in the box of its unit, by its parts
abbrev start_with : ℕ → List ℕ → ℕ → ℕ → List ℕ → List ℕ → List ℕ
start_with shade title left top name op =
    mark_text shade title (rect_text (codes "b") (record { x = left; y = top; width = 84; height = 36 })
    ++ (words_text (codes "n") (left + 42) (top + 16) (cut 12 name) ++ words_text (codes "o") (left + 42) (top + 29) op))

pub start_is : (m : Mapped) (x v : ℕ) (b : Spot) (old a d e f g : List ℕ) (shade left top : ℕ) (title name op : List ℕ)
    → shade ≡ colour v → title ≡ start_title m x v → left ≡ b.x → top ≡ b.y → name ≡ node_name m v → op ≡ op_text m v
    → a ≡ old ++ mark_head shade title
    → d ≡ a ++ rect_text (codes "b") (record { x = left; y = top; width = 84; height = 36 })
    → e ≡ d ++ words_text (codes "n") (left + 42) (top + 16) (cut 12 name)
    → f ≡ e ++ words_text (codes "o") (left + 42) (top + 29) op
    → g ≡ f ++ mark_end
    → g ≡ old ++ start_mark m x b v
start_is m x v b old a d e f g shade left top title name op is_shade is_title is_left is_top is_name is_op head rect words more end =
    joined old (mark_head shade title) a g _ head (joined a _ f g mark_end (joined a _ d f _ rect (joined d _ e f _ words more)) end)
    ∙ ap (λ z. old ++ start_with z title left top name op) is_shade
    ∙ ap (λ z. old ++ start_with (colour v) z left top name op) is_title
    ∙ ap (λ z. old ++ start_with (colour v) (start_title m x v) z top name op) is_left
    ∙ ap (λ z. old ++ start_with (colour v) (start_title m x v) b.x z name op) is_top
    ∙ ap (λ z. old ++ start_with (colour v) (start_title m x v) b.x b.y z op) is_name
    ∙ ap (λ z. old ++ start_with (colour v) (start_title m x v) b.x b.y (node_name m v) z) is_op

-- a value on the chip of its resource
abbrev stay_with : ℕ → List ℕ → ℕ → ℕ → List ℕ → List ℕ
stay_with shade title left top name =
    mark_text shade title (rect_text (codes "b") (record { x = left; y = top; width = 33; height = 12 })
    ++ words_text (codes "r") (left + 16) (top + 9) (cut 7 name))

pub stay_is : (m : Mapped) (p : Position) (b : Spot) (old a d e f : List ℕ) (shade left top : ℕ) (title name : List ℕ)
    → shade ≡ colour p.source → title ≡ stay_title m p → left ≡ b.x → top ≡ b.y → name ≡ node_name m p.source
    → a ≡ old ++ mark_head shade title
    → d ≡ a ++ rect_text (codes "b") (record { x = left; y = top; width = 33; height = 12 })
    → e ≡ d ++ words_text (codes "r") (left + 16) (top + 9) (cut 7 name)
    → f ≡ e ++ mark_end
    → f ≡ old ++ stay_mark m b p
stay_is m p b old a d e f shade left top title name is_shade is_title is_left is_top is_name head rect words end =
    joined old (mark_head shade title) a f _ head (joined a _ e f mark_end (joined a _ d e _ rect words) end)
    ∙ ap (λ z. old ++ stay_with z title left top name) is_shade
    ∙ ap (λ z. old ++ stay_with (colour p.source) z left top name) is_title
    ∙ ap (λ z. old ++ stay_with (colour p.source) (stay_title m p) z top name) is_left
    ∙ ap (λ z. old ++ stay_with (colour p.source) (stay_title m p) b.x z name) is_top
    ∙ ap (λ z. old ++ stay_with (colour p.source) (stay_title m p) b.x b.y z) is_name

-- the line of a link
abbrev link_with : ℕ → List ℕ → List ℕ → List ℕ → Kind → Spot → List ℕ
link_with shade title cls ways kind b = mark_text shade title (path_text cls ways ++ ring_by kind b)

pub link_is : (m : Mapped) (p : Position) (q : ℕ) (old a d e f : List ℕ) (shade : ℕ) (title cls ways : List ℕ) (kind : Kind) (b : Spot)
    → shade ≡ colour p.source → title ≡ link_title m p q → kind ≡ (resource m.arch p.resource).kind → cls ≡ line_class kind
    → ways ≡ way m.arch (frame_of m.arch) p.source q p.resource → b ≡ seat m.arch (frame_of m.arch) q
    → a ≡ old ++ mark_head shade title
    → d ≡ a ++ path_text cls ways
    → e ≡ d ++ ring_by kind b
    → f ≡ e ++ mark_end
    → f ≡ old ++ mark_text (colour p.source) (link_title m p q)
    (path_text (line_class (resource m.arch p.resource).kind) (way m.arch (frame_of m.arch) p.source q p.resource) ++ ring_by (resource m.arch p.resource).kind (seat m.arch (frame_of m.arch) q))
link_is m p q old a d e f shade title cls ways kind b is_shade is_title is_kind is_cls is_ways is_b head line ring end =
    joined old (mark_head shade title) a f _ head (joined a _ e f mark_end (joined a (path_text cls ways) d e (ring_by kind b) line ring) end)
    ∙ ap (λ z. old ++ link_with z title cls ways kind b) is_shade
    ∙ ap (λ z. old ++ link_with (colour p.source) z cls ways kind b) is_title
    ∙ ap (λ z. old ++ link_with (colour p.source) (link_title m p q) z ways kind b) is_cls
    ∙ ap (λ z. old ++ link_with (colour p.source) (link_title m p q) (line_class z) ways z b) is_kind
    ∙ ap (λ z. old ++ link_with (colour p.source) (link_title m p q) (line_class (resource m.arch p.resource).kind) z (resource m.arch p.resource).kind b) is_ways
    ∙ ap (λ z. old ++ link_with (colour p.source) (link_title m p q) (line_class (resource m.arch p.resource).kind) (way m.arch (frame_of m.arch) p.source q p.resource) (resource m.arch p.resource).kind z) is_b

-- a value in the row of its resource
abbrev cell_with : ℕ → List ℕ → ℕ → List ℕ → List ℕ → List ℕ
cell_with shade title number name rest =
    mark_text shade title (rect_text (codes "b") (record { x = 0; y = 14 + 18 * number; width = 100; height = 16 })
    ++ words_text (codes "o") 50 (26 + 18 * number) (cut 10 name ++ rest))

pub cell_is : (m : Mapped) (r : ℕ) (p : Position) (old a d e f : List ℕ) (shade number time : ℕ) (title name rest : List ℕ)
    → shade ≡ colour p.source → title ≡ stay_title m p → number ≡ r → name ≡ node_name m p.source → time ≡ round_of m p.time → rest ≡ codes " @" ++ decimal time
    → a ≡ old ++ mark_head shade title
    → d ≡ a ++ rect_text (codes "b") (record { x = 0; y = 14 + 18 * number; width = 100; height = 16 })
    → e ≡ d ++ words_text (codes "o") 50 (26 + 18 * number) (cut 10 name ++ rest)
    → f ≡ e ++ mark_end
    → f ≡ old ++ mark_text (colour p.source) (stay_title m p) (rect_text (codes "b") (record { x = 0; y = 14 + 18 * r; width = 100; height = 16 })
    ++ words_text (codes "o") 50 (26 + 18 * r) (cut 10 (node_name m p.source) ++ (codes " @" ++ decimal (round_of m p.time))))
cell_is m r p old a d e f shade number time title name rest is_shade is_title is_number is_name is_time is_rest head rect words end =
    joined old (mark_head shade title) a f _ head (joined a _ e f mark_end (joined a _ d e _ rect words) end)
    ∙ ap (λ z. old ++ cell_with z title number name rest) is_shade
    ∙ ap (λ z. old ++ cell_with (colour p.source) z number name rest) is_title
    ∙ ap (λ z. old ++ cell_with (colour p.source) (stay_title m p) z name rest) is_number
    ∙ ap (λ z. old ++ cell_with (colour p.source) (stay_title m p) r z rest) is_name
    ∙ ap (λ z. old ++ cell_with (colour p.source) (stay_title m p) r (node_name m p.source) z) (is_rest ∙ ap (λ z. codes " @" ++ decimal z) is_time)

-- the frame of a tile
abbrev tile_with : ℕ → ℕ → ℕ → List ℕ → List ℕ
tile_with left top high words = rect_text (codes "t") (record { x = left; y = top; width = 170; height = high }) ++ words_text (codes "s") (left + 5) (top + 11) words

pub tile_is : (c : Spot) (height t : ℕ) (old a b : List ℕ) (left top high : ℕ) (words : List ℕ)
    → left ≡ c.x → top ≡ c.y → high ≡ height → words ≡ decimal (t / 32) ++ (codes "," ++ decimal (t % 32))
    → a ≡ old ++ rect_text (codes "t") (record { x = left; y = top; width = 170; height = high })
    → b ≡ a ++ words_text (codes "s") (left + 5) (top + 11) words
    → b ≡ old ++ tile_text c height t
tile_is c height t old a b left top high words is_left is_top is_high is_words rect said =
    joined old _ a b _ rect said
    ∙ ap (λ z. old ++ tile_with z top high words) is_left
    ∙ ap (λ z. old ++ tile_with c.x z high words) is_top
    ∙ ap (λ z. old ++ tile_with c.x c.y z words) is_high
    ∙ ap (λ z. old ++ tile_with c.x c.y height z) is_words

pub frame_shown : (A : Arch) (r : ℕ) (c : Spot) (height t : ℕ) → c ≡ corner (frame_of A) (tile_of A r) → height ≡ tile_height (frame_of A) → t ≡ tile_of A r → true ≡ begins_tile A r
    → tile_text c height t ≡ frame_text A (frame_of A) r
frame_shown A r c height t is_c is_height is_t begins =
    ap (λ z. tile_text z height t) is_c
    ∙ ap (λ z. tile_text (corner (frame_of A) (tile_of A r)) z t) is_height
    ∙ ap (λ z. tile_text (corner (frame_of A) (tile_of A r)) (tile_height (frame_of A)) z) is_t
    ∙ ap (λ (z : Bool). cond z (tile_text (corner (frame_of A) (tile_of A r)) (tile_height (frame_of A)) (tile_of A r)) []) begins

pub frame_hidden : (A : Arch) (r : ℕ) → false ≡ begins_tile A r → [] ≡ frame_text A (frame_of A) r
frame_hidden A r begins = ap (λ (z : Bool). cond z (tile_text (corner (frame_of A) (tile_of A r)) (tile_height (frame_of A)) (tile_of A r)) []) begins

-- a rectangle at a place
pub rect_at : (cls old new : List ℕ) (width height left top : ℕ) (b : Spot) → left ≡ b.x → top ≡ b.y
    → new ≡ old ++ rect_text cls (record { x = left; y = top; width = width; height = height })
    → new ≡ old ++ rect_text cls (record { x = b.x; y = b.y; width = width; height = height })
rect_at cls old new width height left top b is_left is_top here =
    here ∙ ap (λ z. old ++ rect_text cls (record { x = z; y = top; width = width; height = height })) is_left
    ∙ ap (λ z. old ++ rect_text cls (record { x = b.x; y = z; width = width; height = height })) is_top

-- Elements of pictures (SVG 1.1), each with the class that determines its look in the style of the picture.
use Rattle.std.specs.Prelude.{ℕ, List, ◌++◌, codes, decimal}
pub use Rattle.cg_layout.specs.declared.svg.Area.{Area}

-- a rectangle
abbrev pub rect_text : List ℕ → Area → List ℕ
rect_text cls a =
    codes "<rect class='" ++ (cls ++ (codes "' x='" ++ (decimal a.x ++ (codes "' y='" ++ (decimal a.y ++ (codes "' width='" ++ (decimal a.width ++
    (codes "' height='" ++ (decimal a.height ++ codes "'/>")))))))))

-- words that begin, end or are centred at a place, as their class says
abbrev pub words_text : List ℕ → ℕ → ℕ → List ℕ → List ℕ
words_text cls x y words =
    codes "<text class='" ++ (cls ++ (codes "' x='" ++ (decimal x ++ (codes "' y='" ++ (decimal y ++ (codes "'>" ++ (words ++ codes "</text>")))))))

-- the text before the words
abbrev pub words_head : List ℕ → ℕ → ℕ → List ℕ
words_head cls x y = codes "<text class='" ++ (cls ++ (codes "' x='" ++ (decimal x ++ (codes "' y='" ++ (decimal y ++ codes "'>")))))

-- a ring
abbrev pub ring_text : ℕ → ℕ → List ℕ
ring_text x y = codes "<circle class='w' cx='" ++ (decimal x ++ (codes "' cy='" ++ (decimal y ++ codes "' r='3'/>")))

-- lines of a class
abbrev pub path_text : List ℕ → List ℕ → List ℕ
path_text cls way = codes "<path class='" ++ (cls ++ (codes "' d='" ++ (way ++ codes "'/>")))

-- a mark of a colour, with the text that a browser shows under the pointer
abbrev pub mark_head : ℕ → List ℕ → List ℕ
mark_head colour title = codes "<g class='c" ++ (decimal colour ++ (codes "'><title>" ++ (title ++ codes "</title>")))

abbrev pub mark_end : List ℕ
mark_end = codes "</g>\n"

abbrev pub mark_text : ℕ → List ℕ → List ℕ → List ℕ
mark_text colour title inside = mark_head colour title ++ (inside ++ mark_end)

-- the head of a group that begins at a place
abbrev pub group_head : ℕ → ℕ → List ℕ
group_head x y = codes "<g transform='translate(" ++ (decimal x ++ (codes " " ++ (decimal y ++ codes ")'>\n")))

-- What is proved of loops: their kernels are valid, do what the loops do, and have no aliased accesses.
use Rattle.std.specs.Prelude.{◌≡◌, ℕ, ◌+◌, ◌<◌, ◌≤◌, Bool, true, ◌&&◌, eqb, nat_lt, List, Option, Some, None, length, map, slice_index}
use Rattle.std.specs.List.{list_all, range_with_len}
use Rattle.cg_word.specs.Word.{words, arity}
use Rattle.cg_model.specs.Limits.{port_count, most_nodes, most_order_edges}
use Rattle.cg_model.specs.Work.{Image}
use Rattle.cg_model.specs.Kernel.{IsKernel, size}
use Rattle.cg_model.specs.Turns.{turns_left}
use Rattle.cg_model.specs.Order.{IsUnaliased}
use Rattle.cg_loop_syntax.specs.declared.body.Decl.{Decl}
use Rattle.cg_loop_syntax.specs.declared.body.Decl.TheVariants.{Array, Carry}
use Rattle.cg_loop_syntax.specs.declared.body.LoopBody.{LoopBody}
use Rattle.cg_loop_syntax.specs.Loop.{Expr, Num, Turn, In, Scalar, Item, Two, Three, Stmt, Bind, Assign, Put, Emit, Body, Extent, extent}
use Rattle.cg_loop_syntax.specs.Body.{body_of}
use Rattle.cg_loop_syntax.specs.Uses.{is_ruled}
use Rattle.cg_loop_syntax.specs.Well.{is_word_op}
use Rattle.cg_loop_laws.specs.Meaning.{loop_left}
use Rattle.cg_loop_laws.specs.Translate.{loop_kernel_of}

-- ---- which bodies

-- numbers are words, and operations are those on words, with their operands
abbrev pub is_sound : Expr → Bool
is_sound (Num w) = nat_lt w words
is_sound Turn = true
is_sound (In p) = true
is_sound (Scalar x) = true
is_sound (Item a e) = is_sound e
is_sound (Two op a b) = (is_word_op op && eqb (arity op) 2) && (is_sound a && is_sound b)
is_sound (Three op a b c) = (is_word_op op && eqb (arity op) 3) && (is_sound a && (is_sound b && is_sound c))

abbrev pub is_sound_guard : Option Expr → Bool
is_sound_guard None = true
is_sound_guard (Some g) = is_sound g

abbrev pub is_sound_stmt : Stmt → Bool
is_sound_stmt (Bind x e) = is_sound e
is_sound_stmt (Assign x e) = is_sound e
is_sound_stmt (Put a ix v g) = is_sound ix && (is_sound v && is_sound_guard g)
is_sound_stmt (Emit p v g) = is_sound v && is_sound_guard g

abbrev pub is_sound_decl : Decl → Bool
is_sound_decl (Array x at len) = true
is_sound_decl (Carry x start) = nat_lt start words

-- a body that a text of the language may encode
pub record IsLoop (P : Body) : Type 0 where
  pub decls : list_all is_sound_decl P.decls ≡ true
  pub stmts : list_all is_sound_stmt P.stmts ≡ true
  pub ruled : is_ruled P ≡ true

-- the body of each loop body of the program is a loop
abbrev pub AreLoops : Type 0
AreLoops = (b : LoopBody) → IsLoop (body_of b)

-- ---- validity and effect of their kernels

-- within the limits they are valid kernels
abbrev pub AreKernels : Type 0
AreKernels = (P : Body) → IsLoop P → size (loop_kernel_of P) ≤ most_nodes → length (loop_kernel_of P).order ≤ most_order_edges → IsKernel (loop_kernel_of P)

-- the memory has the words of each array
abbrev pub HasRoom : Body → Image → Type 0
HasRoom P image = (a : List ℕ) → (extent P.decls a).at + (extent P.decls a).len ≤ length image.memory

abbrev pub IsInside : Extent → ℕ → Type 0
IsInside r x = (r.at ≤ x) × (x < r.at + r.len)

-- the iterations of the kernel leave each array as the loop does, the rest of the memory unchanged, the loop's outputs,
-- and no access outside the memory
pub record LeavesLoop (P : Body) (n : ℕ) (image : Image) : Type 0 where
  pub size : length (turns_left (loop_kernel_of P) n image).image.memory ≡ length image.memory
  pub lengths : (a : List ℕ) → length ((loop_left P n image).arrays a) ≡ (extent P.decls a).len
  pub arrays : (a : List ℕ) (e : ℕ) → e < (extent P.decls a).len →
      slice_index (turns_left (loop_kernel_of P) n image).image.memory ((extent P.decls a).at + e) ≡ slice_index ((loop_left P n image).arrays a) e
  pub elsewhere : (x : ℕ) → ((a : List ℕ) → IsInside (extent P.decls a) x → ⊥) →
      slice_index (turns_left (loop_kernel_of P) n image).image.memory x ≡ slice_index image.memory x
  pub outputs : (turns_left (loop_kernel_of P) n image).image.streams ≡ map (loop_left P n image).outs (range_with_len 0 port_count)
  pub outside : (turns_left (loop_kernel_of P) n image).outside ≡ 0

abbrev pub DoLoops : Type 0
DoLoops = (P : Body) (n : ℕ) (image : Image) → IsLoop P → HasRoom P image → LeavesLoop P n image

-- no run of the kernel has two aliased accesses, whatever the image
abbrev pub AreUnaliased : Type 0
AreUnaliased = (P : Body) (n : ℕ) (image : Image) → IsLoop P → IsUnaliased (loop_kernel_of P) n image

-- A node's type is a small number.
-- Assumes nothing.
use mathlib.Core.Path.{◌≡◌, refl}
use mathlib.Core.Bool.{true}
use Prim.Native.Nat.{ℕ, zero, suc, ◌+◌, ◌≤◌}
use native.Mathlib.Omega.{arith}
use lib.IntN.{ℤ}
use lib.Dec.{leb}
use borrow.Author.Tests.{leb-true}
use Rattle.tables.proofs.Bools.{true_false, and_left}
use Rattle.signed.specs.Words.{num, within}
use Rattle.item.proofs.Products.{multiple_sort}
use Rattle.node.specs.declared.Given.{Given}
use Rattle.node.specs.Rows.{Row, literal, row_of}

-- the types of the fact and of the first child are at most m, and so is the node's
abbrev Few : ℕ → Row → Type 0
Few m r = (g : Given) → g.fact.item.sort ≤ m → g.x.sort ≤ m → r.takes g ≡ true → (r.gives g).sort ≤ m

literal_few : (u : ℕ) (l h : ℤ) (t p m : ℕ) → t + p ≤ m → Few m (literal u l h t p)
literal_few u l h t p m b g f x e =
    omega (arith, leb-true (num g.words.w2) p (and_left (leb (num g.words.w2) p) (within l g.words.w1 h) e))

-- 261 is the type of a Duration in seconds
pub sort_few : (k : ℕ) → Few 261 (row_of k)
unfolding row_of
sort_few zero = literal_few 2 _ _ 1 0 261 (omega arith)
sort_few (suc zero) = literal_few 2 _ _ 0 0 261 (omega arith)
sort_few (suc (suc zero)) = literal_few 3 _ _ 2 127 261 (omega arith)
sort_few (suc (suc (suc zero))) = λ g f x e. f
sort_few (suc (suc (suc (suc zero)))) = λ g f x e. x
sort_few (suc (suc (suc (suc (suc zero))))) = λ g f x e. x
sort_few (suc (suc (suc (suc (suc (suc zero)))))) = λ g f x e. rw (multiple_sort g.words.w2 g.x) x
sort_few (suc (suc (suc (suc (suc (suc (suc zero))))))) = λ g f x e. omega arith
sort_few (suc (suc (suc (suc (suc (suc (suc (suc zero)))))))) = λ g f x e. omega arith
sort_few (suc (suc (suc (suc (suc (suc (suc (suc (suc zero))))))))) = λ g f x e. omega arith
sort_few (suc (suc (suc (suc (suc (suc (suc (suc (suc (suc zero)))))))))) = λ g f x e. omega arith
sort_few (suc (suc (suc (suc (suc (suc (suc (suc (suc (suc (suc zero))))))))))) = λ g f x e. omega arith
sort_few (suc (suc (suc (suc (suc (suc (suc (suc (suc (suc (suc (suc zero)))))))))))) = literal_few 3 _ _ 130 127 261 (omega arith)
sort_few (suc (suc (suc (suc (suc (suc (suc (suc (suc (suc (suc (suc (suc zero))))))))))))) = literal_few 3 _ _ 258 3 261 (omega arith)
sort_few (suc (suc (suc (suc (suc (suc (suc (suc (suc (suc (suc (suc (suc (suc zero)))))))))))))) = λ g f x e. omega arith
sort_few (suc (suc (suc (suc (suc (suc (suc (suc (suc (suc (suc (suc (suc (suc (suc zero))))))))))))))) = λ g f x e. omega arith
sort_few (suc (suc (suc (suc (suc (suc (suc (suc (suc (suc (suc (suc (suc (suc (suc (suc zero)))))))))))))))) = λ g f x e. omega arith
sort_few (suc (suc (suc (suc (suc (suc (suc (suc (suc (suc (suc (suc (suc (suc (suc (suc (suc zero))))))))))))))))) = λ g f x e. f
sort_few (suc (suc (suc (suc (suc (suc (suc (suc (suc (suc (suc (suc (suc (suc (suc (suc (suc (suc k)))))))))))))))))) = λ g f x e. absurd (true_false e refl)

-- What a row that takes what it is given says of its words.
-- Assumes nothing.
use mathlib.Core.Path.{◌≡◌, refl}
use mathlib.Core.Bool.{true}
use Prim.Native.Nat.{ℕ, zero, suc, ◌≤◌}
use native.Mathlib.Omega.{arith}
use lib.IntN.{ℤ}
use lib.Dec.{leb, eqb}
use borrow.Author.Tests.{leb-true}
use Rattle.tables.proofs.Bools.{true_false, and_left}
use Rattle.signed.specs.Words.{num, within, bounded}
use Rattle.node.specs.declared.Given.{Given}
use Rattle.node.specs.Rows.{literal, row_of}
use Rattle.kinds.specs.Inner.{is_literal}

-- word 2 of a literal is at most m
literal_part : (u : ℕ) (l h : ℤ) (t m : ℕ) (g : Given) → (literal u l h t m).takes g ≡ true → num g.words.w2 ≤ m
literal_part u l h t m g e = leb-true (num g.words.w2) m (and_left (leb (num g.words.w2) m) (within l g.words.w1 h) e)

pub part_taken : (k : ℕ) (g : Given) → (row_of k).takes g ≡ true → is_literal k ≡ true → num g.words.w2 ≤ 127
unfolding row_of
part_taken zero g p e = omega (arith, literal_part 2 _ _ 1 0 g p)
part_taken (suc zero) g p e = omega (arith, literal_part 2 _ _ 0 0 g p)
part_taken (suc (suc zero)) g p e = literal_part 3 _ _ 2 127 g p
part_taken (suc (suc (suc zero))) g p e = absurd (true_false e refl)
part_taken (suc (suc (suc (suc zero)))) g p e = absurd (true_false e refl)
part_taken (suc (suc (suc (suc (suc zero))))) g p e = absurd (true_false e refl)
part_taken (suc (suc (suc (suc (suc (suc zero)))))) g p e = absurd (true_false e refl)
part_taken (suc (suc (suc (suc (suc (suc (suc zero))))))) g p e = absurd (true_false e refl)
part_taken (suc (suc (suc (suc (suc (suc (suc (suc zero)))))))) g p e = absurd (true_false e refl)
part_taken (suc (suc (suc (suc (suc (suc (suc (suc (suc zero))))))))) g p e = absurd (true_false e refl)
part_taken (suc (suc (suc (suc (suc (suc (suc (suc (suc (suc zero)))))))))) g p e = absurd (true_false e refl)
part_taken (suc (suc (suc (suc (suc (suc (suc (suc (suc (suc (suc zero))))))))))) g p e = absurd (true_false e refl)
part_taken (suc (suc (suc (suc (suc (suc (suc (suc (suc (suc (suc (suc zero)))))))))))) g p e = literal_part 3 _ _ 130 127 g p
part_taken (suc (suc (suc (suc (suc (suc (suc (suc (suc (suc (suc (suc (suc zero))))))))))))) g p e = omega (arith, literal_part 3 _ _ 258 3 g p)
part_taken (suc (suc (suc (suc (suc (suc (suc (suc (suc (suc (suc (suc (suc (suc zero)))))))))))))) g p e = absurd (true_false e refl)
part_taken (suc (suc (suc (suc (suc (suc (suc (suc (suc (suc (suc (suc (suc (suc (suc zero))))))))))))))) g p e = absurd (true_false e refl)
part_taken (suc (suc (suc (suc (suc (suc (suc (suc (suc (suc (suc (suc (suc (suc (suc (suc zero)))))))))))))))) g p e = absurd (true_false e refl)
part_taken (suc (suc (suc (suc (suc (suc (suc (suc (suc (suc (suc (suc (suc (suc (suc (suc (suc zero))))))))))))))))) g p e = absurd (true_false e refl)
part_taken (suc (suc (suc (suc (suc (suc (suc (suc (suc (suc (suc (suc (suc (suc (suc (suc (suc (suc k)))))))))))))))))) g p e = absurd (true_false p refl)

-- a product's literal lies in −M..M
pub product_part : (k : ℕ) (g : Given) → (row_of k).takes g ≡ true → k ≡ 6 → bounded g.words.w2 ≡ true
unfolding row_of
product_part k g p e = and_left (bounded g.words.w2) (eqb g.x.sort 1) (rw e at p)

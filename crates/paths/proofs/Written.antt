-- What a writer has been given of the bytes that are to be written, and what of them is left.
-- Assumes nothing.
use Rattle.std.proofs.Common.{◌≡◌, ◌+◌, ◌≤◌, ℕ, List, [], ◌++◌, length, take, drop, arith, sym, ◌∙◌, ap, subst, append_assoc, append-nil}
use Rattle.std.specs.Prelude.{Option}
use Rattle.std.specs.Io.KnownBytes.{Appends}
use Rattle.std.proofs.lemmas.List.{take_at}
use Rattle.std.proofs.lemmas.List.Edits.{sets, sets-eq}
use Rattle.std.proofs.KnownBytes.{Appends-trans}

-- from `old` to `new` the writer was given all but the rest
pub record Written (old new : Option (List ℕ)) (all rest : List ℕ) : Type 0 where
  pub bytes : List ℕ
  pub given : Appends old new bytes
  pub whole : all ≡ bytes ++ rest

pub written_more : {old new then : Option (List ℕ)} {all rest : List ℕ} (bytes : List ℕ) {left : List ℕ} → Written old new all rest
    → Appends new then bytes → rest ≡ bytes ++ left → Written old then all left
written_more {old} {new} {then} bytes {left} w a e =
    record {
      bytes = w.bytes ++ bytes;
      given = Appends-trans old new then w.bytes bytes w.given a;
      whole = w.whole ∙ ap (λ (x : List ℕ). w.bytes ++ x) e ∙ sym (append_assoc w.bytes bytes left);
    }

pub written_all : {old new : Option (List ℕ)} {all rest : List ℕ} → Written old new all rest → rest ≡ [] → Appends old new all
written_all {old} {new} w e =
    let same = w.whole ∙ ap (λ (x : List ℕ). w.bytes ++ x) e ∙ append-nil w.bytes in
    subst (λ (x : List ℕ). Appends old new x) (sym same) w.given

-- what is put to the start of a buffer stands there
pub put_back : (bytes lent : List ℕ) (n : ℕ) → n ≡ length bytes → length bytes ≤ length lent → take n (sets lent 0 bytes) ≡ bytes
put_back bytes lent n e l = ap (take n) (sets-eq bytes lent 0 (omega arith)) ∙ take_at bytes (drop (0 + length bytes) lent) n (sym e)

-- What a good header guarantees, for the functions that work under it.
-- Assumes nothing.
use Rattle.std.specs.Prelude.{◌≡◌, List, ℕ, ◌+◌, ◌*◌, ◌≤◌, ◌<◌, ℤ, length}
use Rattle.layout.specs.declared.Header.{Header}
use Rattle.layout.specs.Header.{records}

-- every count is within its limit
pub record Limits (h : Header) : Type 0 where
  pub personas : h.personas ≤ 24
  pub facts : h.facts ≤ 128
  pub nodes : h.nodes ≤ 1024
  pub rules : h.rules ≤ 128
  pub entities : h.entities ≤ 32
  pub transitions : h.transitions ≤ 512
  pub operations : h.operations ≤ 128
  pub effects : h.effects ≤ 512
  pub flows : h.flows ≤ 32
  pub steps : h.steps ≤ 256
  pub routes : h.routes ≤ 1024

-- and the sheet is exactly as long as its header says
pub record Sized (s : List ℤ) (h : Header) : Type 0 where
  pub limits : Limits h
  pub long : length s ≡ 16 + 8 * records h

-- the owners of a group: few, and held by the sheet; j is a word's place in a record
pub record Owners (s : List ℤ) (first j owners : ℕ) : Type 0 where
  pub inside : j < 8
  pub few : owners ≤ 256
  pub held : 16 + 8 * (first + owners) ≤ length s

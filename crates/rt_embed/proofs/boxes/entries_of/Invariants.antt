use Rattle.std.proofs.Common.{All, Ok, ◌≡◌, length}
use Rattle.rt_geo.specs.Entries.{HasLayer}
use Rattle.rt_embed.specs.GivenBoxes.{entries_upto}
use Rattle.rt_embed.proofs.boxes.entries_of.Given as goal

-- the entries before this place
abbrev pub invariant-loop-place : goal.invariant-loop-place
invariant-loop-place g l = record {
  entries : entries_upto (g.B.Boxes.given l.boxes) l.place ≡ Ok l.entries;
  len : length l.entries ≡ l.place;
  layers : All HasLayer l.entries;
}

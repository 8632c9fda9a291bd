-- `lines::laws` meets its contract: each law is a theorem of Denoted.
use Rattle.lines.proofs.Denoted.{decimal_denotes, decimal_plain, hexadecimal_denotes, hexadecimal_eight}
use Rattle.lines.proofs.laws.Goals as goal

pub returns : goal.returns
returns c = record {
  decimal_denotes = decimal_denotes;
  decimal_plain = decimal_plain;
  hexadecimal_denotes = hexadecimal_denotes;
  hexadecimal_eight = hexadecimal_eight;
}

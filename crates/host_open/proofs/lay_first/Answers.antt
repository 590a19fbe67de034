-- `host_open::lay_first` meets its contract. Assumes nothing.
use borrow.Author.Rules.{rules}
use native.Mathlib.Omega.{arith}
use Rattle.layout.specs.Laws.{head_ends}
use Rattle.host_open.specs.Laws.{first_laid}
use Rattle.host_open.proofs.lay_first.Goals as goal

pub put-requires : goal.put-requires
put-requires c = omega (arith, head_ends _ c.head-first.ensures c.lay_numbers.ensures.lays)

pub returns : goal.returns
returns c = search (rules, first_laid c.args.size c.head-first.ensures c.requires.1 c.lay_numbers.ensures.lays c.put.ensures.lays c.clear.ensures)

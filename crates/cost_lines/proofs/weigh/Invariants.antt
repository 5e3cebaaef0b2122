-- Before each closure those before it have their lengths.
use Rattle.std.proofs.Common.{◌≡◌, ◌≤◌, [], length, take}
use Rattle.std.specs.List.{flat_map}
use Rattle.sheet.specs.Sheet.{sheet_of}
use Rattle.cost_rules.specs.Cost.{opened_line}
use Rattle.cost_lines.specs.Ask.{line_of}
use Rattle.cost_lines.proofs.weigh.Given as goal

abbrev pub invariant-loop-closure : goal.invariant-loop-closure
invariant-loop-closure g l =
    (length l.opened.items ≤ l.closure-index) × (flat_map line_of l.opened.items ≡ flat_map (opened_line (sheet_of l.sheet.header l.sheet.arcs.now []) l.item l.list) (take l.closure-index l.list))

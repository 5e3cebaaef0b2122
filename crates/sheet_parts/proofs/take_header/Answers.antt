-- Each number of the header decides the next step.
use Rattle.std.proofs.Common.{rules}
use Rattle.sheet_parts.proofs.TakeLaws.{no_nodes, few_nodes, no_arcs, no_source, no_target, one_place, no_limit, header_taken}
use Rattle.sheet_parts.proofs.take_header.Goals as goal

pub returns-in_err-nodes-clause-refused : goal.returns-in_err-nodes-clause-refused
returns-in_err-nodes-clause-refused c = let stopped = no_nodes _ c.in_err-nodes.ensures.refused in search rules

pub returns-then-nodes-lt-NODES_LEAST-clause-refused : goal.returns-then-nodes-lt-NODES_LEAST-clause-refused
returns-then-nodes-lt-NODES_LEAST-clause-refused c = few_nodes _ c.in_ok-nodes.ensures.got c.if-nodes-lt-NODES_LEAST.true

pub returns-in_err-arcs-clause-refused : goal.returns-in_err-arcs-clause-refused
returns-in_err-arcs-clause-refused c = let stopped = no_arcs _ c.in_ok-nodes.ensures.got c.if-nodes-lt-NODES_LEAST.false c.in_err-arcs.ensures.refused in search rules

pub returns-in_err-source-clause-refused : goal.returns-in_err-source-clause-refused
returns-in_err-source-clause-refused c = let stopped = no_source _ c.in_ok-nodes.ensures.got c.if-nodes-lt-NODES_LEAST.false c.in_ok-arcs.ensures.got c.in_err-source.ensures.refused in search rules

pub returns-in_err-target-clause-refused : goal.returns-in_err-target-clause-refused
returns-in_err-target-clause-refused c = let stopped = no_target _ c.in_ok-nodes.ensures.got c.if-nodes-lt-NODES_LEAST.false c.in_ok-arcs.ensures.got c.in_ok-source.ensures.got c.in_err-target.ensures.refused in search rules

pub returns-then-target-source-clause-refused : goal.returns-then-target-source-clause-refused
returns-then-target-source-clause-refused c = one_place _ c.in_ok-nodes.ensures.got c.if-nodes-lt-NODES_LEAST.false c.in_ok-arcs.ensures.got c.in_ok-source.ensures.got c.in_ok-target.ensures.got c.if-target-source.true

pub returns-in_err-limit-clause-refused : goal.returns-in_err-limit-clause-refused
returns-in_err-limit-clause-refused c = let stopped = no_limit _ c.in_ok-nodes.ensures.got c.if-nodes-lt-NODES_LEAST.false c.in_ok-arcs.ensures.got c.in_ok-source.ensures.got c.in_ok-target.ensures.got c.if-target-source.false c.in_err-limit.ensures.refused in search rules

pub returns-clause-got : goal.returns-clause-got
returns-clause-got c = header_taken _ c.in_ok-nodes.ensures.got c.if-nodes-lt-NODES_LEAST.false c.in_ok-arcs.ensures.got c.in_ok-source.ensures.got c.in_ok-target.ensures.got c.if-target-source.false c.in_ok-limit.ensures.got

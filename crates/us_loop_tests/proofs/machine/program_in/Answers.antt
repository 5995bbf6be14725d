use Rattle.us_loop_tests.proofs.machine.program_in.Goals as goal

pub returns-in-Ok : goal.returns-in-Ok
returns-in-Ok c = (c.parsed_program_keeps_limits.ensures c.args.text.now 0 c.in-Ok.one c.in-Ok.ensures).0

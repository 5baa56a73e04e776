use Rattle.axp_world.specs.RunLaws.{Played, bytes_in, world_in}
use Rattle.axp_world.proofs.BufferStates.{state_agrees}
use Rattle.axp_world.proofs.BusConsole.{console_agrees}
use Rattle.axp_world.proofs.BusTouched.{touched_agrees}
use Rattle.axp_world.proofs.RunJoined.{Joined, joined}
use Rattle.axp_world.proofs.RunWants.{in_line}
use Rattle.axp_world.proofs.laws.played_histories_are_runs.Goals as goal

has : (g : Played) → Joined g.image g.cpus g.budget g.history
has g = joined g.image g.cpus g.budget g.history g.valid g.plays

pub returns : goal.returns
returns c = record {
  in_line = in_line;
  run = λ g. (has g).run;
  turns = λ g. (has g).bus.count;
  memory = λ g. (has g).bus.bytes (bytes_in g);
  touched = λ g. touched_agrees (bytes_in g) g.history (world_in g).calls (has g).bus;
  console = λ g. console_agrees g.image g.cpus g.budget g.history g.valid g.plays;
  seats = λ g. (has g).seats;
  entries = λ g p n. state_agrees p n g.history ((world_in g).actors p).kept.buffer ((has g).buffers p);
}

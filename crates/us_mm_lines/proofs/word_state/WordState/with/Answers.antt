use Rattle.us_mm_lines.proofs.WordStateLemmas.{front_more, front_room, bytes_more}
use Rattle.us_mm_lines.proofs.word_state.WordState.with.Goals as goal

pub returns : goal.returns
returns c = λ w h. record {
  room = front_room c.args.self.front c.front_with.result c.args.self.bytes c.args.b h.room c.front_with.ensures;
  front = front_more w c.args.self.front c.front_with.result c.args.self.bytes c.args.b h.room h.front h.bytes c.front_with.ensures;
  bytes = bytes_more w c.args.self.bytes c.saturating_add.result c.args.b h.bytes c.saturating_add.ensures;
  number = c.number_with.ensures w h.bytes h.number;
}

use Rattle.settings_text.specs.Serve.{serve_of}
use Rattle.settings_text.specs.ServeSpelling.{SpellsServe, IsBadServeKey}
use Rattle.settings_text.proofs.TextExact.{serve_text, judges}
use Rattle.settings_text.proofs.serve.read_serve.Goals as goal

pub returns-clause-spells : goal.returns-clause-spells
returns-clause-spells c =
    judges serve_of SpellsServe IsBadServeKey c.args.text.now (serve_text c.args.text.now) c.settings_in.result c.settings_in.ensures.judges

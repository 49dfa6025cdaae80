-- What a line adds, as the code has it (this project's own).
use Rattle.be_said.specs.declared.deeds.Deed.{Deed}
use Rattle.be_said.specs.declared.deeds.Deed.TheVariants as deed
use Rattle.be_said.specs.Deeds as forms

abbrev pub seen_deed : Deed → forms.Deed
seen_deed (deed.Screen width height) = forms.sizes_screen width height
seen_deed (deed.Bitmap name width height) = forms.begins_bitmap name width height
seen_deed (deed.Row colors) = forms.adds_row colors.items
seen_deed (deed.Window line) = forms.adds_window line
seen_deed (deed.View line) = forms.adds_view line
seen_deed (deed.Handler line) = forms.adds_handler line
seen_deed (deed.Filter line) = forms.adds_filter line
seen_deed (deed.Body w target what) = forms.begins_body w target what
seen_deed (deed.Draw w v) = forms.begins_draw w v
seen_deed (deed.Program name) = forms.begins_program name
seen_deed (deed.Input event) = forms.adds_input event
seen_deed (deed.Step step) = forms.adds_step step
seen_deed deed.End = forms.closes

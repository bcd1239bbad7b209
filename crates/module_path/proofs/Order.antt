use Rattle.module_path.specs.LoadOrder.{text_stops, imports_stop, file_loads, file_given_up, all_loaded, one_stops, one_loads, is_settled, no_text, module_stops, module_loads, import_given_up}

pub ruleset order = (text_stops, imports_stop, file_loads, all_loaded, one_stops, one_loads, is_settled, no_text, module_stops, module_loads)

mod NotLoaded

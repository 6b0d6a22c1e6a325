mod Patrols
